-- Eight pages, the answers of all their searches computed: a run ends where the rights change, and where its half ends; then a stop, and no page is left.
use mathlib.Core.Bool.{true, false}
use mathlib.Core.List.{[], ◌∷◌}
use native.Mathlib.Decide.{ℕ_discrete}
use lib.ListN.{get_or}
use lib.Dec.{lit<}
use Rattle.mapping.specs.Pages.{Rights, rights, reserved, absent, broken, mapped, same_state, Space}
use Rattle.mapping.specs.Search.{stop, run, first, nothing, line, half_end, answer_at, answer_from, search, next, Searches, none, more}

abbrev writable : Rights
writable = rights true false true

abbrev executable : Rights
executable = rights false false false

abbrev eight : Space
eight =
    record {
      page = λ x.
          get_or
          (absent ∷ mapped 5 writable ∷ mapped 6 writable ∷ mapped 7 executable ∷ mapped 8 executable ∷ absent ∷ broken 2 reserved ∷ broken 2 reserved ∷ [])
          x absent;
      size = 8;
      high = 4;
      span = λ l. l;
    }

answers : Searches eight 0 (run 1 5 2 writable ∷ run 3 7 1 executable ∷ run 4 8 1 executable ∷ stop 6 2 reserved ∷ []) 8
unfolding search answer_from answer_at first nothing line half_end same_state ℕ_discrete next
answers = more {p = 0} (lit< tt) (more {p = 3} (lit< tt) (more {p = 4} (lit< tt) (more {p = 5} (lit< tt) none)))
