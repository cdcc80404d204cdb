-- Pages and the spans of entries, by page numbers: `n` + 1 is the level of the entry.
use Rattle.std.specs.Prelude.{ℕ, ◌%◌}
use Rattle.mapping.specs.Pages.{span_end}
use Rattle.mapping.specs.Walk.{span_pages}

-- how far into its span a page is
abbrev pub within : ℕ → ℕ → ℕ
within n x = x % span_pages n

-- the page after the last of the span that page `x` is in
unfoldable pub after : ℕ → ℕ → ℕ
after n x = span_end (span_pages n) x
