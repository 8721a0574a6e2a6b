-- A field that writes no bytes. Assumes nothing.
use Rattle.std.proofs.Common.{◌≡◌, ℕ, ◌⊎◌, List, Err, codes, sym, ◌∙◌, inl, inr}
use Rattle.hex.specs.Hex.{decode_of}
use Rattle.hex.specs.declared.error.FromHexError.{FromHexError}
use Rattle.hex.specs.declared.error.FromHexError.TheVariants.{InvalidHexCharacter, OddLength, InvalidStringLength, OutOfMemory}
use Rattle.vectors.specs.Days.{Unwritten, Writes, dash, digits, not_hex, memory}
use Rattle.vectors.specs.Faults.{fault_of}

-- What is not `-` and does not decode writes nothing.
writes_none : (field : List ℕ) (e : FromHexError) → (field ≡ codes "-" → ⊥) → decode_of field ≡ Err e → (bytes : List ℕ) → Writes field bytes → ⊥
writes_none field e other bad bytes (dash d _) = other d
writes_none field e other bad bytes (digits d) = cc (sym d ∙ bad)

-- Why no bytes come of a field that is not `-`.
pub unwritten : (field : List ℕ) (e : FromHexError) → (field ≡ codes "-" → ⊥) → (e ≡ OutOfMemory) ⊎ (decode_of field ≡ Err e) → Unwritten field (fault_of e)
unwritten field OutOfMemory other h = memory
unwritten field OddLength other (inl m) = cc m
unwritten field OddLength other (inr bad) = not_hex (writes_none field OddLength other bad)
unwritten field InvalidStringLength other (inl m) = cc m
unwritten field InvalidStringLength other (inr bad) = not_hex (writes_none field InvalidStringLength other bad)
unwritten field (InvalidHexCharacter c i) other (inl m) = cc m
unwritten field (InvalidHexCharacter c i) other (inr bad) = not_hex (writes_none field (InvalidHexCharacter c i) other bad)
