-- What an error of hex digits is to a line.
use Rattle.hex.specs.declared.error.FromHexError.{FromHexError}
use Rattle.hex.specs.declared.error.FromHexError.TheVariants.{InvalidHexCharacter, OddLength, InvalidStringLength, OutOfMemory}
use Rattle.vectors.specs.declared.hex_field.Fault.{Fault}
use Rattle.vectors.specs.declared.hex_field.Fault.TheVariants.{NotHex, Memory}

-- Want of memory is that; all else is no hex.
abbrev pub fault_of : FromHexError → Fault
fault_of OutOfMemory = Memory
fault_of OddLength = NotHex
fault_of InvalidStringLength = NotHex
fault_of (InvalidHexCharacter c i) = NotHex
