-- The table of document 01, "Checked by proof", as document 02 amends it, and what its requests name beside that, as one statement about the definitions. What the functions answer
-- follows from their contracts, which give each answer by the same definitions.
use Rattle.std.specs.Prelude.{ℕ, ◌-◌, ◌^◌, ◌≡◌, true, false, List, [], ◌∷◌, map, pos, negsuc}
use Rattle.answer.specs.Outcome.{Outcome, gives, none, refuses}
use Rattle.laws.specs.Width.{sign_extend, canonical}
use Rattle.laws.specs.Index.{span}
use Rattle.laws.specs.Address.{virt, phys, plus, plus_signed, align_up_virt, forward_from, steps_between, table_index, level_index, page_offset}
use Rattle.laws.specs.Displacement.{least}
use Rattle.table.specs.Level.{higher}
use Rattle.table.specs.declared.size.PageSize.TheVariants.{Size4KiB, Size2MiB}
use Rattle.laws.specs.Item.{item}
use Rattle.laws.specs.Range.{count_below, count_through, bytes_through}
use Rattle.frame.specs.Frame.{pfn_of, from_pfn}
use Rattle.mapping.specs.Pages.{PageState, rights}
use Rattle.mapping.specs.Walk.{reserved_bit, maps, table, space_of}
use Rattle.paging.specs.Entry.{entry}
use Rattle.page.specs.Page.{page_at, page_of_indices}
use Rattle.page.specs.Range.{nth_of, nth_back_of, nth_inclusive_of, nth_back_inclusive_of}
use Rattle.page.specs.Length.{len_of, len_inclusive_of, size_inclusive_of}
use Rattle.page.specs.declared.page.Page.{Page}
use Rattle.range.specs.declared.range.Range.{Range}
use Rattle.range.specs.declared.range_inclusive.RangeInclusive.{RangeInclusive}

-- a 4 KiB page, and ranges of them
abbrev pub page : ℕ → Page
page a = page_at Size4KiB a

abbrev pub exclusive : ℕ → ℕ → Range Page
exclusive a b = record { start = page a; end = page b }

abbrev pub inclusive : ℕ → ℕ → RangeInclusive Page
inclusive a b = record { start = page a; end = page b }

-- an inclusive range of 2 MiB pages
abbrev pub large : ℕ → ℕ → RangeInclusive Page
large a b = record { start = page_at Size2MiB a; end = page_at Size2MiB b }

-- what the displacements −2^31, −1, 0 and 2^31 − 1 give, from an address of a width
abbrev pub displacements_from : ℕ → ℕ → List (Outcome ℕ)
displacements_from w a = map (plus_signed (virt w) a) (least ∷ negsuc 0 ∷ pos 0 ∷ pos (2 ^ 31 - 1) ∷ [])

pub record Table : Type 0 where
  -- A truncate 8000_0000_0000: ffff_8000_0000_0000
  pub a : sign_extend 48 0x8000_0000_0000 ≡ 0xffff_8000_0000_0000
  -- B forward(7fff_ffff_ffff, 1): ffff_8000_0000_0000; with `+`: refusal 6
  pub b-forward : forward_from 48 0x7fff_ffff_ffff 1 ≡ gives 0xffff_8000_0000_0000
  pub b-plus : plus (virt 48) 0x7fff_ffff_ffff 1 ≡ refuses 6
  -- C forward(0, 2^48 − 1): ffff_ffff_ffff_ffff; 2^48: `None`
  pub c-last : forward_from 48 0 (2 ^ 48 - 1) ≡ gives 0xffff_ffff_ffff_ffff
  pub c-past : forward_from 48 0 (2 ^ 48) ≡ none
  -- D steps 7fff_ffff_f000 to ffff_8000_0000_0000: 1000; back: `None`
  pub d-steps : steps_between 48 0x7fff_ffff_f000 0xffff_8000_0000_0000 ≡ gives 0x1000
  pub d-back : steps_between 48 0xffff_8000_0000_0000 0x7fff_ffff_f000 ≡ none
  -- E align_up(7fff_ffff_f001, 1000): ffff_8000_0000_0000; align_up(1, 2^48): 0
  pub e-jump : align_up_virt 48 0x7fff_ffff_f001 0x1000 ≡ gives 0xffff_8000_0000_0000
  pub e-zero : align_up_virt 48 1 (2 ^ 48) ≡ gives 0
  -- F ffff_8000_0020_3456: indices 256, 0, 1, 3 (decimal), offset 456
  pub f-level-4 : table_index 48 0xffff_8000_0020_3456 4 ≡ gives 256
  pub f-level-3 : table_index 48 0xffff_8000_0020_3456 3 ≡ gives 0
  pub f-level-2 : table_index 48 0xffff_8000_0020_3456 2 ≡ gives 1
  pub f-level-1 : table_index 48 0xffff_8000_0020_3456 1 ≡ gives 3
  pub f-offset : page_offset 48 0xffff_8000_0020_3456 ≡ gives 0x456
  -- G frame c000_0000: numbers c0000, 600, 3 at 4 KiB, 2 MiB, 1 GiB
  pub g-4-kib : pfn_of 0xc000_0000 0x1000 ≡ gives 0xc0000
  pub g-2-mib : pfn_of 0xc000_0000 0x20_0000 ≡ gives 0x600
  pub g-1-gib : pfn_of 0xc000_0000 0x4000_0000 ≡ gives 3
  -- "Edges: 2^40 − 1 is a 4 KiB frame number, 2^40 isn't."
  pub edge-last : from_pfn (2 ^ 40 - 1) 0x1000 ≡ gives (item (2 ^ 52 - 0x1000) 0x1000)
  pub edge-past : from_pfn (2 ^ 40) 0x1000 ≡ refuses 12
  -- H inclusive, both ffff_ffff_ffff_f000: front gives it, end is ffff_ffff_ffff_e000
  pub h : nth_inclusive_of 48 (inclusive 0xffff_ffff_ffff_f000 0xffff_ffff_ffff_f000) 0
      ≡ record { answer = gives (item 0xffff_ffff_ffff_f000 0x1000); range = inclusive 0xffff_ffff_ffff_f000 0xffff_ffff_ffff_e000 }
  -- I inclusive, both 0: back gives 0, start is 1000
  pub i : nth_back_inclusive_of 48 (inclusive 0 0) 0 ≡ record { answer = gives (item 0 0x1000); range = inclusive 0x1000 0 }
  -- J inclusive, both 7fff_ffff_f000: `len` 1, front gives it, end is 7fff_ffff_e000 (document 02, request One; document 01 alone refuses 10)
  pub j-len : count_through (virt 48) 0x7fff_ffff_f000 0x1000 0x7fff_ffff_f000 0x1000 ≡ gives 1
  pub j-front : nth_inclusive_of 48 (inclusive 0x7fff_ffff_f000 0x7fff_ffff_f000) 0
      ≡ record { answer = gives (item 0x7fff_ffff_f000 0x1000); range = inclusive 0x7fff_ffff_f000 0x7fff_ffff_e000 }
  -- request One: inclusive, both ffff_8000_0000_0000: back gives it, start is ffff_8000_0000_1000
  pub first-high-back : nth_back_inclusive_of 48 (inclusive 0xffff_8000_0000_0000 0xffff_8000_0000_0000) 0
      ≡ record { answer = gives (item 0xffff_8000_0000_0000 0x1000); range = inclusive 0xffff_8000_0000_1000 0xffff_8000_0000_0000 }
  -- the same at 57 bits
  pub last-low-57 : nth_inclusive_of 57 (inclusive 0xff_ffff_ffff_f000 0xff_ffff_ffff_f000) 0
      ≡ record { answer = gives (item 0xff_ffff_ffff_f000 0x1000); range = inclusive 0xff_ffff_ffff_f000 0xff_ffff_ffff_e000 }
  pub first-high-57 : nth_back_inclusive_of 57 (inclusive 0xff00_0000_0000_0000 0xff00_0000_0000_0000) 0
      ≡ record { answer = gives (item 0xff00_0000_0000_0000 0x1000); range = inclusive 0xff00_0000_0000_1000 0xff00_0000_0000_0000 }
  -- of 2 MiB, from 7fff_ffc0_0000 to 7fff_ffe0_0000: the second gives the last, and there is no tenth; both leave the same
  pub last-low-2-mib : nth_inclusive_of 48 (large 0x7fff_ffc0_0000 0x7fff_ffe0_0000) 1
      ≡ record { answer = gives (item 0x7fff_ffe0_0000 0x20_0000); range = large 0x7fff_ffe0_0000 0x7fff_ffc0_0000 }
  pub past-last-low-2-mib : nth_inclusive_of 48 (large 0x7fff_ffc0_0000 0x7fff_ffe0_0000) 9 ≡ record { answer = none; range = large 0x7fff_ffe0_0000 0x7fff_ffc0_0000 }
  -- an empty range stays as it is: from ffff_8000_0000_0000 to 7fff_ffff_f000
  pub empty-front : nth_inclusive_of 48 (inclusive 0xffff_8000_0000_0000 0x7fff_ffff_f000) 0
      ≡ record { answer = none; range = inclusive 0xffff_8000_0000_0000 0x7fff_ffff_f000 }
  pub empty-back : nth_back_inclusive_of 48 (inclusive 0xffff_8000_0000_0000 0x7fff_ffff_f000) 0
      ≡ record { answer = none; range = inclusive 0xffff_8000_0000_0000 0x7fff_ffff_f000 }
  -- a range from 7fff_ffff_f000 to ffff_8000_0000_0000 stays refused 10 from either end, inclusive and exclusive
  pub over-front : nth_inclusive_of 48 (inclusive 0x7fff_ffff_f000 0xffff_8000_0000_0000) 0
      ≡ record { answer = refuses 10; range = inclusive 0x7fff_ffff_f000 0xffff_8000_0000_0000 }
  pub over-back : nth_back_inclusive_of 48 (inclusive 0x7fff_ffff_f000 0xffff_8000_0000_0000) 0
      ≡ record { answer = refuses 10; range = inclusive 0x7fff_ffff_f000 0xffff_8000_0000_0000 }
  pub over-front-exclusive : nth_of 48 (exclusive 0x7fff_ffff_f000 0xffff_8000_0000_0000) 0
      ≡ record { answer = refuses 10; range = exclusive 0x7fff_ffff_f000 0xffff_8000_0000_0000 }
  pub over-back-exclusive : nth_back_of 48 (exclusive 0x7fff_ffff_f000 0xffff_8000_0000_0000) 0
      ≡ record { answer = refuses 10; range = exclusive 0x7fff_ffff_f000 0xffff_8000_0000_0000 }
  -- K exclusive 7fff_ffff_e000 to ffff_8000_0000_1000: `len` 3 (document 02, request Three; document 01 alone f_fff0_0000_0003); nth(0) 7fff_ffff_e000, nth(1) refusal 10;
  -- nth_back(0) ffff_8000_0000_0000, nth_back(1) refusal 10
  pub k-len : count_below (virt 48) 0x7fff_ffff_e000 0x1000 0xffff_8000_0000_1000 0x1000 ≡ gives 3
  pub k-nth-0 : nth_of 48 (exclusive 0x7fff_ffff_e000 0xffff_8000_0000_1000) 0
      ≡ record { answer = gives (item 0x7fff_ffff_e000 0x1000); range = exclusive 0x7fff_ffff_f000 0xffff_8000_0000_1000 }
  pub k-nth-1 : nth_of 48 (exclusive 0x7fff_ffff_e000 0xffff_8000_0000_1000) 1
      ≡ record { answer = refuses 10; range = exclusive 0x7fff_ffff_e000 0xffff_8000_0000_1000 }
  pub k-back-0 : nth_back_of 48 (exclusive 0x7fff_ffff_e000 0xffff_8000_0000_1000) 0
      ≡ record { answer = gives (item 0xffff_8000_0000_0000 0x1000); range = exclusive 0x7fff_ffff_e000 0xffff_8000_0000_0000 }
  pub k-back-1 : nth_back_of 48 (exclusive 0x7fff_ffff_e000 0xffff_8000_0000_1000) 1
      ≡ record { answer = refuses 10; range = exclusive 0x7fff_ffff_e000 0xffff_8000_0000_1000 }
  -- request Two: "also at −2^31, −1, 0 and 2^31 − 1", from 0, 2^31, the last low, the first high and the last address
  pub displaced-0 : displacements_from 48 0 ≡ refuses 5 ∷ refuses 5 ∷ gives 0 ∷ gives 0x7fff_ffff ∷ []
  pub displaced-2-gib : displacements_from 48 (2 ^ 31) ≡ gives 0 ∷ gives 0x7fff_ffff ∷ gives 0x8000_0000 ∷ gives 0xffff_ffff ∷ []
  pub displaced-last-low : displacements_from 48 0x7fff_ffff_ffff ≡ gives 0x7fff_7fff_ffff ∷ gives 0x7fff_ffff_fffe ∷ gives 0x7fff_ffff_ffff ∷ refuses 6 ∷ []
  pub displaced-first-high : displacements_from 48 0xffff_8000_0000_0000 ≡ refuses 6 ∷ refuses 6 ∷ gives 0xffff_8000_0000_0000 ∷ gives 0xffff_8000_7fff_ffff ∷ []
  pub displaced-last : displacements_from 48 0xffff_ffff_ffff_ffff ≡ gives 0xffff_ffff_7fff_ffff ∷ gives 0xffff_ffff_ffff_fffe ∷ gives 0xffff_ffff_ffff_ffff ∷ refuses 5 ∷ []
  -- the same at 57 bits
  pub displaced-0-57 : displacements_from 57 0 ≡ displacements_from 48 0
  pub displaced-2-gib-57 : displacements_from 57 (2 ^ 31) ≡ displacements_from 48 (2 ^ 31)
  pub displaced-last-low-57 : displacements_from 57 0xff_ffff_ffff_ffff ≡ gives 0xff_ffff_7fff_ffff ∷ gives 0xff_ffff_ffff_fffe ∷ gives 0xff_ffff_ffff_ffff ∷ refuses 6 ∷ []
  pub displaced-first-high-57 : displacements_from 57 0xff00_0000_0000_0000 ≡ refuses 6 ∷ refuses 6 ∷ gives 0xff00_0000_0000_0000 ∷ gives 0xff00_0000_7fff_ffff ∷ []
  pub displaced-last-57 : displacements_from 57 0xffff_ffff_ffff_ffff ≡ displacements_from 48 0xffff_ffff_ffff_ffff
  -- a number that is no address is refused 1, even where −1 would lead to one: at 57 bits the first is an address
  pub displaced-gap : displacements_from 48 0x8000_0000_0000 ≡ refuses 1 ∷ refuses 1 ∷ refuses 1 ∷ refuses 1 ∷ []
  pub displaced-gap-57 : displacements_from 57 0x100_0000_0000_0000 ≡ refuses 1 ∷ refuses 1 ∷ refuses 1 ∷ refuses 1 ∷ []
  pub displaced-low-57 : displacements_from 57 0x8000_0000_0000 ≡ gives 0x7fff_8000_0000 ∷ gives 0x7fff_ffff_ffff ∷ gives 0x8000_0000_0000 ∷ gives 0x8000_7fff_ffff ∷ []
  -- request Three: "the whole 4 KiB inclusive range is 2^48 bytes", of 2 MiB pages too; document 01 alone refuses 5
  pub whole-len : len_inclusive_of 48 (inclusive 0 0xffff_ffff_ffff_f000) ≡ gives (2 ^ 36)
  pub whole-size : size_inclusive_of 48 (inclusive 0 0xffff_ffff_ffff_f000) ≡ gives (2 ^ 48)
  pub whole-size-2-mib : size_inclusive_of 48 (large 0 0xffff_ffff_ffe0_0000) ≡ gives (2 ^ 48)
  -- at 57 bits, and the low pages from 0 to 2^48, which at 48 bits is no address
  pub whole-len-57 : len_inclusive_of 57 (inclusive 0 0xffff_ffff_ffff_f000) ≡ gives (2 ^ 45)
  pub whole-size-57 : size_inclusive_of 57 (inclusive 0 0xffff_ffff_ffff_f000) ≡ gives (2 ^ 57)
  pub low-len-57 : len_of 57 (exclusive 0 (2 ^ 48)) ≡ gives (2 ^ 36)
  pub low-len-no-address : len_of 48 (exclusive 0 (2 ^ 48)) ≡ refuses 1
  -- the last low page and the first high one, and no page from a high start to a low end
  pub over-len : len_of 48 (exclusive 0x7fff_ffff_f000 0xffff_8000_0000_0000) ≡ gives 1
  pub over-len-inclusive : len_inclusive_of 48 (inclusive 0x7fff_ffff_f000 0xffff_8000_0000_0000) ≡ gives 2
  pub over-size-inclusive : size_inclusive_of 48 (inclusive 0x7fff_ffff_f000 0xffff_8000_0000_0000) ≡ gives 0x2000
  pub back-len : len_of 48 (exclusive 0xffff_8000_0000_0000 0x7fff_ffff_f000) ≡ gives 0
  pub back-len-inclusive : len_inclusive_of 48 (inclusive 0xffff_8000_0000_0000 0x7fff_ffff_f000) ≡ gives 0
  -- as before: all frames, and the low half alone
  pub all-frames : bytes_through (phys 52) 0 0x1000 (2 ^ 52 - 0x1000) 0x1000 ≡ gives (2 ^ 52)
  pub low-half : size_inclusive_of 48 (inclusive 0 0x7fff_ffff_f000) ≡ gives (2 ^ 47)
  -- "Conditions for 10 don't use `len` and remain": K with n = `len`
  pub k-nth-3 : nth_of 48 (exclusive 0x7fff_ffff_e000 0xffff_8000_0000_1000) 3
      ≡ record { answer = refuses 10; range = exclusive 0x7fff_ffff_e000 0xffff_8000_0000_1000 }
  pub k-back-3 : nth_back_of 48 (exclusive 0x7fff_ffff_e000 0xffff_8000_0000_1000) 3
      ≡ record { answer = refuses 10; range = exclusive 0x7fff_ffff_e000 0xffff_8000_0000_1000 }
  -- document 02, request Four: A to K at 57 bits, "bits 57 to 63 copy bit 56, the gap lies between 0x00ff_ffff_ffff_ffff and 0xff00_0000_0000_0000"
  pub a-57 : sign_extend 57 0x100_0000_0000_0000 ≡ 0xff00_0000_0000_0000
  pub b-forward-57 : forward_from 57 0xff_ffff_ffff_ffff 1 ≡ gives 0xff00_0000_0000_0000
  pub b-plus-57 : plus (virt 57) 0xff_ffff_ffff_ffff 1 ≡ refuses 6
  -- "Stepping is bounded by 2^57"
  pub c-last-57 : forward_from 57 0 (2 ^ 57 - 1) ≡ gives 0xffff_ffff_ffff_ffff
  pub c-past-57 : forward_from 57 0 (2 ^ 57) ≡ none
  pub d-steps-57 : steps_between 57 0xff_ffff_ffff_f000 0xff00_0000_0000_0000 ≡ gives 0x1000
  pub d-back-57 : steps_between 57 0xff00_0000_0000_0000 0xff_ffff_ffff_f000 ≡ none
  pub e-jump-57 : align_up_virt 57 0xff_ffff_ffff_f001 0x1000 ≡ gives 0xff00_0000_0000_0000
  pub e-zero-57 : align_up_virt 57 1 (2 ^ 57) ≡ gives 0
  -- "level 5 has its nine bits from bit 48": indices 256, 0, 0, 1, 3 (decimal), offset 456
  pub f-level-5-57 : level_index 57 5 0xff00_0000_0020_3456 5 ≡ gives 256
  pub f-level-4-57 : level_index 57 5 0xff00_0000_0020_3456 4 ≡ gives 0
  pub f-level-3-57 : level_index 57 5 0xff00_0000_0020_3456 3 ≡ gives 0
  pub f-level-2-57 : level_index 57 5 0xff00_0000_0020_3456 2 ≡ gives 1
  pub f-level-1-57 : level_index 57 5 0xff00_0000_0020_3456 1 ≡ gives 3
  pub f-offset-57 : page_offset 57 0xff00_0000_0020_3456 ≡ gives 0x456
  -- G and its edges have no width
  pub h-57 : nth_inclusive_of 57 (inclusive 0xffff_ffff_ffff_f000 0xffff_ffff_ffff_f000) 0
      ≡ record { answer = gives (item 0xffff_ffff_ffff_f000 0x1000); range = record { start = page 0xffff_ffff_ffff_f000; end = page 0xffff_ffff_ffff_e000 } }
  pub i-57 : nth_back_inclusive_of 57 (inclusive 0 0) 0 ≡ record { answer = gives (item 0 0x1000); range = inclusive 0x1000 0 }
  -- J from the front, and its mirror in the high half, stand above as `last-low-57` and `first-high-57`
  pub j-len-57 : count_through (virt 57) 0xff_ffff_ffff_f000 0x1000 0xff_ffff_ffff_f000 0x1000 ≡ gives 1
  pub k-len-57 : count_below (virt 57) 0xff_ffff_ffff_e000 0x1000 0xff00_0000_0000_1000 0x1000 ≡ gives 3
  pub k-nth-0-57 : nth_of 57 (exclusive 0xff_ffff_ffff_e000 0xff00_0000_0000_1000) 0
      ≡ record { answer = gives (item 0xff_ffff_ffff_e000 0x1000); range = exclusive 0xff_ffff_ffff_f000 0xff00_0000_0000_1000 }
  pub k-nth-1-57 : nth_of 57 (exclusive 0xff_ffff_ffff_e000 0xff00_0000_0000_1000) 1
      ≡ record { answer = refuses 10; range = exclusive 0xff_ffff_ffff_e000 0xff00_0000_0000_1000 }
  pub k-back-0-57 : nth_back_of 57 (exclusive 0xff_ffff_ffff_e000 0xff00_0000_0000_1000) 0
      ≡ record { answer = gives (item 0xff00_0000_0000_0000 0x1000); range = exclusive 0xff_ffff_ffff_e000 0xff00_0000_0000_0000 }
  pub k-back-1-57 : nth_back_of 57 (exclusive 0xff_ffff_ffff_e000 0xff00_0000_0000_1000) 1
      ≡ record { answer = refuses 10; range = exclusive 0xff_ffff_ffff_e000 0xff00_0000_0000_1000 }
  -- the ends of the gap; the first high address is in the gap of 48 bits
  pub last-low-canonical-57 : canonical 57 0x00ff_ffff_ffff_ffff ≡ true
  pub gap-first-57 : canonical 57 0x0100_0000_0000_0000 ≡ false
  pub gap-last-57 : canonical 57 0xfeff_ffff_ffff_ffff ≡ false
  pub first-high-canonical-57 : canonical 57 0xff00_0000_0000_0000 ≡ true
  pub gap-of-48 : canonical 48 0xff00_0000_0000_0000 ≡ false
  -- 48 bits have no level 5; of a high address of both widths the index there is the last one
  pub no-level-5 : level_index 48 4 0xffff_8000_0020_3456 5 ≡ none
  pub no-level-5-refused : level_index 48 4 0x8000_0000_0000 5 ≡ refuses 1
  pub both-level-5 : level_index 57 5 0xffff_8000_0020_3456 5 ≡ gives 511
  pub both-level-4 : level_index 57 5 0xffff_8000_0020_3456 4 ≡ gives 256
  pub above-4 : (higher 4 4 ≡ none) × (higher 5 4 ≡ gives 5) × (higher 5 5 ≡ none)
  pub span-5 : (span 5 ≡ 2 ^ 57) × (span 4 ≡ 2 ^ 48)
  -- "and is the first index when a page is assembled", at 2 MiB and 1 GiB too; each index is tested in argument order
  pub assembled-57 : page_of_indices 57 5 256 0 0 1 3 0x1000 ≡ gives (item 0xff00_0000_0020_3000 0x1000)
  pub assembled-low-57 : page_of_indices 57 5 255 511 511 511 511 0x1000 ≡ gives (item 0xff_ffff_ffff_f000 0x1000)
  pub assembled-2-mib-57 : page_of_indices 57 5 1 2 3 4 0 0x20_0000 ≡ gives (item 0x1_0100_c080_0000 0x20_0000)
  pub assembled-1-gib-57 : page_of_indices 57 5 1 2 3 0 0 0x4000_0000 ≡ gives (item 0x1_0100_c000_0000 0x4000_0000)
  pub assembled-refused-57 : page_of_indices 57 5 512 600 0 0 0 0x1000 ≡ refuses 9
  pub assembled-48 : page_of_indices 48 4 0 256 0 1 3 0x1000 ≡ gives (item 0xffff_8000_0020_3000 0x1000)
  pub assembled-no-level-5 : page_of_indices 48 4 1 256 0 1 3 0x1000 ≡ none
  pub assembled-refused-48 : (page_of_indices 48 4 512 0 0 0 0 0x1000 ≡ refuses 9) × (page_of_indices 48 4 1 512 0 0 0 0x1000 ≡ refuses 9)
  -- "level-5 entries follow the rules for level 4": bit 7 is reserved, where level 3 has a page; else a table is named
  pub bit-7 : (entry 52 true 5 0x81 ≡ reserved_bit) × (entry 52 true 4 0x81 ≡ reserved_bit) × (entry 52 true 3 0x81 ≡ maps 0 (rights false false false))
  pub named-5 : entry 52 true 5 0x1007 ≡ table 0x1000 (rights true true false)
  -- "there are 2^45 pages of 4 KiB to agree on", 2^44 in each half
  pub pages-57 : (page_state : ℕ → PageState) → ((space_of 5 page_state).size ≡ 2 ^ 45) × ((space_of 5 page_state).high ≡ 2 ^ 44)
