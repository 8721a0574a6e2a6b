-- What each mark of a property text is.
use Rattle.std.specs.Prelude.{◌≡◌, ℕ, Bool, true, false}
use Rattle.forms.specs.Bytes.{capital, small, digit, space, wordy}
use Rattle.property.specs.declared.marks.Mark.{Mark}
use Rattle.property.specs.declared.marks.Mark.TheVariants.{Capital, Small, Digit, Space, Newline, Star, Bang, Comma, Semicolon, Colon, Equals, Minus, Open, Close, Less, Greater, Other}
use Rattle.property.specs.declared.marks.Class as classes

-- The code c is no letter, digit or mark of the text.
pub record Strange (c : ℕ) : Type 0 where
  pub no_word : wordy c ≡ false
  pub no_space : c ≡ 32 → ⊥
  pub no_newline : c ≡ 10 → ⊥
  pub no_star : c ≡ 42 → ⊥
  pub no_bang : c ≡ 33 → ⊥
  pub no_comma : c ≡ 44 → ⊥
  pub no_semicolon : c ≡ 59 → ⊥
  pub no_colon : c ≡ 58 → ⊥
  pub no_equals : c ≡ 61 → ⊥
  pub no_minus : c ≡ 45 → ⊥
  pub no_open : c ≡ 40 → ⊥
  pub no_close : c ≡ 41 → ⊥
  pub no_less : c ≡ 60 → ⊥
  pub no_greater : c ≡ 62 → ⊥

-- The characters of each mark.
abbrev pub Means : Mark → ℕ → Type 0
Means Capital c = capital c ≡ true
Means Small c = small c ≡ true
Means Digit c = digit c ≡ true
Means Space c = c ≡ 32
Means Newline c = c ≡ 10
Means Star c = c ≡ 42
Means Bang c = c ≡ 33
Means Comma c = c ≡ 44
Means Semicolon c = c ≡ 59
Means Colon c = c ≡ 58
Means Equals c = c ≡ 61
Means Minus c = c ≡ 45
Means Open c = c ≡ 40
Means Close c = c ≡ 41
Means Less c = c ≡ 60
Means Greater c = c ≡ 62
Means Other c = Strange c

-- The bytes of a class.
abbrev pub in_class : classes.Class → ℕ → Bool
in_class classes.TheVariants.Spaces = space
in_class classes.TheVariants.Wordy = wordy
in_class classes.TheVariants.Digits = digit
