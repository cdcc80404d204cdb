-- What the cases of the code's progress stand for.
use Rattle.std.specs.Prelude.{ℕ, ◌+◌, ◌*◌, ◌^◌, not}
use Rattle.mapping.specs.Pages.{Reason, reserved, outside, Rights, rights}
use Rattle.mapping.specs.Pass.{Progress, unfound, stopped, running}
use Rattle.paging.specs.Packed.{digit, rights_over}
use Rattle.found.specs.declared.progress.StopReason.{StopReason}
use Rattle.found.specs.declared.progress.StopReason.TheVariants as reason
use Rattle.found.specs.declared.progress.Progress as code
use Rattle.found.specs.declared.progress.Progress.TheVariants as progress

abbrev pub reason_of : StopReason → Reason
reason_of reason.Reserved = reserved
reason_of reason.Outside = outside

abbrev pub progress_of : code.Progress → Progress
progress_of progress.Unfound = unfound
progress_of (progress.Running q g b) = running q g (rights_over b)
progress_of (progress.Stopped q l r) = stopped q l (reason_of r)

-- the bits of a walk's word that say its rights, and the word that has these alone
abbrev pub rights_mask : ℕ
rights_mask = 0x8000_0000_0000_0006

abbrev pub rights_word : Rights → ℕ
rights_word (rights w u x) = 2 * digit w + 4 * digit u + 2 ^ 63 * digit (not x)

-- a run that begins at a page and a frame, with a word for its rights
abbrev pub begun_at : (page frame word : ℕ) → code.Progress
begun_at q g b = progress.Running q g b
