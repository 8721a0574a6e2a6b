use Rattle.std.proofs.Common.{◌≡◌, ℕ, zero, suc, ◌<◌, Bool, true, false, not, ◌&&◌, List, [], ◌∷◌, length, get_or, set, sym, refl, subst, arith}
use Rattle.std.proofs.lemmas.Bool.{true≢false}
use Rattle.paths.specs.Paths.{Unwritten, start, along, state}
use Rattle.paths.specs.Search.{Complete}
use Rattle.paths.proofs.Unset.{unset}
use Rattle.paths.specs.declared.Reached.{Reached}
use Rattle.paths.proofs.Reached.all.Goals as goal

-- Setting a flag that was not set.
falls : (f : List Bool) (k : ℕ) → k < length f → get_or f k false ≡ false → unset (set f k true) < unset f
falls [] k h e = absurd (omega arith)
falls (true ∷ f) zero h e = absurd (true≢false e)
falls (false ∷ f) zero h e = omega arith
falls (true ∷ f) (suc k) h e = falls f k (omega arith) e
falls (false ∷ f) (suc k) h e = let x = falls f k (omega arith) e in omega arith

-- A statement that does not write leads from a found state only to a found one, where none leads further.
forced : (a b d : Bool) → not a && (b && not d) ≡ false → a ≡ false → b ≡ true → d ≡ true
forced a b true e h k = refl
forced true b false e h k = absurd (true≢false h)
forced false true false e h k = absurd (true≢false e)
forced false false false e h k = absurd (true≢false (sym k))

-- A path never leaves a complete search that has found its start.
stays : (r : Reached) → Complete r → get_or r.seen 0 false ≡ true → (q : ℕ) → Unwritten r.statements.now r.register q → get_or r.seen q false ≡ true
stays r c s q start = s
stays r c s q (along k d h w u) = forced _ _ _ (c k d h) w (stays r c s (state (get_or r.statements.now k d).source) u)

pub loop-q-init : goal.loop-q-init
loop-q-init c =
    let r = c.start-reached.result in
    record {
      searched = c.start-reached.ensures.searched;
      sound = λ q e. subst (Unwritten r.statements.now r.register) (sym ((c.start-reached.ensures.start q).0 e)) start;
      begun = (c.start-reached.ensures.start 0).1 refl;
    }

pub loop-q-smaller : goal.loop-q-smaller
loop-q-smaller c =
    let f = c.loop-q.reached.seen in
    let k = state c.in-Some.q in
    let near : k < length f = omega arith in
    subst (λ (g : List Bool). unset g < unset f) (sym c.add.ensures.found) (falls f k near (c.in-Some.ensures {u = tt}).0)

pub returns-clause-exact : goal.returns-clause-exact
returns-clause-exact c =
    let r = c.loop-q.reached in λ q. (c.loop-q.invariant.sound q, stays r c.in_default.ensures c.loop-q.invariant.begun q)
