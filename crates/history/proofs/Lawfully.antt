-- Every table that a history meets is lawful.
use Rattle.std.proofs.Common.{ℕ, List, [], ◌∷◌, sym, subst}
use Rattle.topl.specs.Lists.{Class}
use Rattle.topl.specs.Table.{Table, Lawful}
use Rattle.topl.specs.Ledger as L
use Rattle.topl.specs.History as H
use Rattle.topl.specs.History.{Moment, Log, Arguments, begun_with, begun_by, begun_as, Whole}
use Rattle.engine.proofs.Properties.{lawful}
use Rattle.history.specs.declared.call.Call.{Call}
use Rattle.history.specs.declared.call.Call.TheVariants.{Begin, Feed, Draw, Close, Verdict, Path}
use Rattle.history.specs.declared.call.Answer.{Answer}
use Rattle.history.specs.Calls.{call, log}
use Rattle.history.specs.Whole.{LawfulThroughout}

-- the table that a call hands over is lawful
abbrev Hands : H.Call → Type 0
Hands (H.to_begin P ks cap) = Lawful P
Hands (H.to_feed e) = Unit {0}
Hands (H.to_draw k) = Unit {0}
Hands H.to_close = Unit {0}
Hands H.ask_verdict = Unit {0}
Hands (H.ask_path page) = Unit {0}

abbrev HandsAll : Log → Type 0
HandsAll [] = Unit {0}
HandsAll (t ∷ h) = Hands t.0 × HandsAll h

kept : (was : Arguments) (P : Table) (ks : List Class) (cap : ℕ) (a : L.Answer) → Lawful was.0 → Lawful P → Lawful (begun_as was P ks cap a).0
kept was P ks cap L.begun old new = new
kept was P ks cap L.no_event old new = old
kept was P ks cap L.no_source old new = old
kept was P ks cap (L.says p x) old new = old
kept was P ks cap (L.verdict_is p n x) old new = old
kept was P ks cap (L.wrote n page) old new = old
kept was P ks cap (L.unwritten f page) old new = old
kept was P ks cap (L.refused f) old new = old

next : (was : Arguments) (c : H.Call) (a : L.Answer) → Lawful was.0 → Hands c → Lawful (begun_by was c a).0
next was (H.to_begin P ks cap) a old new = kept was P ks cap a old new
next was (H.to_feed e) a old new = old
next was (H.to_draw k) a old new = old
next was H.to_close a old new = old
next was H.ask_verdict a old new = old
next was (H.ask_path page) a old new = old

pub throughout : (m n : Moment) (h : Log) (w : Whole m h n) → Lawful m.ledger.table → HandsAll h → LawfulThroughout m h n w
throughout m n [] w l hs = l
throughout m n (t ∷ h) (truth, (o, turns, w)) l hs =
    let e : Lawful o.ledger.table = subst (λ (x : Arguments). Lawful x.0) (sym turns.arguments) (next (begun_with m.ledger) t.0 t.1 l hs.0) in
    (l, throughout o n h w e hs.1)

module _ {V : Type 0} (class : V → Class) where
  -- the code's tables are lawful by their type
  hands : (c : Call V) → Hands (call class c)
  hands (Begin t ks cap) = lawful t.now
  hands (Feed id vs) = tt
  hands (Draw k) = tt
  hands Close = tt
  hands Verdict = tt
  hands (Path page) = tt

  pub hands_all : (cs : List (Call V)) (answers : List Answer) → HandsAll (log class cs answers)
  hands_all [] answers = tt
  hands_all (c ∷ cs) [] = tt
  hands_all (c ∷ cs) (a ∷ answers) = (hands c, hands_all cs answers)
