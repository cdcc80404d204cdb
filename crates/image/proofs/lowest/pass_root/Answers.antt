-- `pass_root` goes over the pages below the root, first over those of the table of level 1 that the page is under.
use Rattle.walk.specs.Segments.{segments_of}
use Rattle.image.proofs.RootTurn.{ends-in, first-returns, goes-on, rest-returns}
use Rattle.image.proofs.lowest.pass_root.Goals as goal

pub returns-then-reached-next : goal.returns-then-reached-next
returns-then-reached-next c =
    first-returns c.args.width c.levels.ensures c.in-Some.ensures c.requires.going c.requires.bounded c.span_end-next.ensures (c.pass_lowest-reached.ensures (segments_of c.args.segments.now) c.requires.known) c.if-reached-next.true

pub pass_rest-requires-2-clause-going : goal.pass_rest-requires-2-clause-going
pass_rest-requires-2-clause-going c =
    goes-on c.args.width c.levels.ensures c.in-Some.ensures c.requires.going c.requires.bounded c.span_end-next.ensures (c.pass_lowest-reached.ensures (segments_of c.args.segments.now) c.requires.known) c.if-reached-next.false

pub pass_rest-requires-2-clause-bounded : goal.pass_rest-requires-2-clause-bounded
pass_rest-requires-2-clause-bounded c = ends-in c.args.width c.levels.ensures c.in-Some.ensures c.requires.going c.requires.bounded c.span_end-next.ensures (c.pass_lowest-reached.ensures (segments_of c.args.segments.now) c.requires.known)

pub returns : goal.returns
returns c =
    rest-returns c.args.width c.levels.ensures c.in-Some.ensures c.requires.going c.requires.bounded c.span_end-next.ensures (c.pass_lowest-reached.ensures (segments_of c.args.segments.now) c.requires.known) c.if-reached-next.false c.pass_rest-2.ensures
