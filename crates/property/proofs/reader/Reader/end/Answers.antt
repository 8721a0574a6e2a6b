use Rattle.std.proofs.Common.{◌≡◌, ℕ, Bool, List, get_or, sym, ◌∙◌, subst, arith}
use Rattle.forms.specs.Bytes.{digit, wordy}
use Rattle.property.specs.Reads.{Lexed}
use Rattle.property.proofs.Readings.{lexed_byte, lexed_word, lexed_number, lexed_mark, not_padded, wordless, longer}
use Rattle.property.proofs.Texts.{passed_in}
use Rattle.property.proofs.reader.Reader.end.Goals as goal

-- A piece ends so at a spot, where it does under what the test of the spot has found.
lexed_at : {found tight b : Bool} {t : List ℕ} {f q : ℕ} → found ≡ tight → found ≡ b → Lexed b t f q → Lexed tight t f q
lexed_at {t = t} {f = f} {q = q} e g x = subst (λ (d : Bool). Lexed d t f q) (sym g ∙ e) x

pub returns-then-tight : goal.returns-then-tight
returns-then-tight c = lexed_at c.tight.ensures c.if-tight.true (lexed_byte c.args.self.now.text.now c.args.from c.requires.within)

pub returns-then-is_ascii_alphabetic : goal.returns-then-is_ascii_alphabetic
returns-then-is_ascii_alphabetic c =
    let t = c.args.self.now.text.now in
    let f = c.args.from in
    let q = c.skip.result in
    let x = passed_in wordy t f q (let w = c.requires.within in omega arith) c.skip.ensures in
    lexed_at c.tight.ensures c.if-tight.false (lexed_word t f q x c.requires.within (sym c.is_ascii_alphabetic.ensures.value ∙ c.if-is_ascii_alphabetic.true))

pub returns-then-not-is_ascii_digit : goal.returns-then-not-is_ascii_digit
returns-then-not-is_ascii_digit c =
    let t = c.args.self.now.text.now in
    let f = c.args.from in
    let w = wordless (get_or t f 0) (sym c.is_ascii_alphabetic.ensures.value ∙ c.if-is_ascii_alphabetic.false) (sym c.is_ascii_digit.ensures.value ∙ c.if-not-is_ascii_digit.true) in
    lexed_at c.tight.ensures c.if-tight.false (lexed_mark t f c.requires.within (c.requires.plain (sym c.tight.ensures ∙ c.if-tight.false)) w)

pub returns : goal.returns
returns c =
    let t = c.args.self.now.text.now in
    let f = c.args.from in
    let q = c.skip-end.result in
    let x = passed_in digit t f q (let w = c.requires.within in omega arith) c.skip-end.ensures in
    let d = sym c.is_ascii_digit.ensures.value ∙ c.if-not-is_ascii_digit.false in
    let p = not_padded (get_or t f 0) f q (longer _ t f q x c.requires.within d) (sym c.padded.ensures ∙ c.if-padded.false) in
    lexed_at c.tight.ensures c.if-tight.false (lexed_number t f q x c.requires.within d p)
