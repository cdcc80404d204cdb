-- What the code's segments stand for.
use Rattle.std.specs.Prelude.{List, map}
use Rattle.paging.specs.Memory as memory
use Rattle.walk.specs.declared.memory.Segment.{Segment}

abbrev pub segment_of : Segment → memory.Segment
segment_of s = record { base = s.base; words = s.words }

-- one after the other
abbrev pub segments_of : List Segment → List memory.Segment
segments_of segments = map segment_of segments
