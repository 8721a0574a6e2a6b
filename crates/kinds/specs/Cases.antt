-- Worked readings.
use Rattle.std.specs.Prelude.{◌≡◌, [], ◌∷◌, Ok, Err, codes}
use Rattle.kinds.specs.Refusals.{number_cut, number_overlong, value_cut, value_bad}
use Rattle.kinds.specs.Numbers.{encode, number_read}
use Rattle.kinds.specs.Labels.{label_read, label_of, label_class, no_label}

-- 84 07 is 900; 84 00 has a needless group; no byte, and 80 alone, end inside a number.
abbrev pub NumberCases : Type 0
NumberCases =
    (encode 900 ≡ 0x84 ∷ 0x07 ∷ [])
    × (number_read (0x84 ∷ 0x07 ∷ []) ≡ Ok (900, 2))
    × (number_read (0x84 ∷ 0x00 ∷ []) ≡ Err number_overlong)
    × (number_read [] ≡ Err number_cut)
    × (number_read (0x80 ∷ []) ≡ Err number_cut)

-- HW-12 and hw-12 are of one class; a length of 300 is bad before the text is cut; a text is cut before its bytes are bad.
abbrev pub LabelCases : Type 0
LabelCases =
    (label_read (5 ∷ codes "HW-12") ≡ Ok (label_of (codes "HW-12"), 6))
    × (label_class (label_of (codes "HW-12")) ≡ codes "hw-12")
    × (label_class (label_of (codes "hw-12")) ≡ codes "hw-12")
    × (label_class no_label ≡ [])
    × (label_read (0xAC ∷ 0x02 ∷ []) ≡ Err value_bad)
    × (label_read (2 ∷ 0x20 ∷ []) ≡ Err value_cut)
    × (label_read (1 ∷ 0x20 ∷ []) ≡ Err value_bad)
    × (label_read (0x80 ∷ []) ≡ Err number_cut)
