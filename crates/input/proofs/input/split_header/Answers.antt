-- `split_header` meets its contract.
use Rattle.std.proofs.Common.{refl, arith}
use Rattle.std.proofs.lemmas.Bool.Decides.{nat_tests}
use Rattle.input.proofs.Fields.{header_is}
use Rattle.input.proofs.input.split_header.Goals as goal
use Rattle.input.proofs.input.split_header.Goals.{then-version-ne-VERSION-via-then-version-ne-VERSION, then-version-ne-VERSION-via-else-version-ne-VERSION+then-words-gt-MOST_WORDS, then-version-ne-VERSION-via-else-version-ne-VERSION+else-words-gt-MOST_WORDS+then-bytes-words}

pub returns : goal.returns
returns c =
    rw (header_is c.from_be_bytes-words.result c.from_be_bytes.result c.from_be_bytes-2.result c.in_ok-version.ensures.cases c.in_ok-words.ensures.cases c.in_ok-base.ensures.cases c.in_ok-root.ensures.cases c.from_be_bytes-words.ensures c.from_be_bytes.ensures c.from_be_bytes-2.ensures)
    (grind (arith, nat_tests))

pub returns-then-version-ne-VERSION : goal.returns-then-version-ne-VERSION
returns-then-version-ne-VERSION c =
    rw (header_is c.from_be_bytes-words.result _ _ c.in_ok-version.ensures.cases c.in_ok-words.ensures.cases c.in_ok-base.ensures.cases c.in_ok-root.ensures.cases c.from_be_bytes-words.ensures refl refl)
    (elim c.then-version-ne-VERSION.branch [ then-version-ne-VERSION-via-then-version-ne-VERSION w ↦ grind (arith, nat_tests) | then-version-ne-VERSION-via-else-version-ne-VERSION+then-words-gt-MOST_WORDS w ↦ grind (arith, nat_tests) | then-version-ne-VERSION-via-else-version-ne-VERSION+else-words-gt-MOST_WORDS+then-bytes-words w ↦ grind (arith, nat_tests) ])
