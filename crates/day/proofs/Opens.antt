-- A journal that is open, and what is listed of it. Assumes nothing.
use Rattle.std.proofs.Common.{◌≡◌, ℕ, List, take, Some, Option, Result}
use Rattle.kinds.specs.declared.refusal.Fault.{Fault}
use Rattle.narrow.specs.Narrowing.{listed, only}
use Rattle.narrow.specs.declared.filter.Narrow.{Narrow}
use Rattle.sources.specs.Opening.{Opened, ahead}
use Rattle.sources.specs.declared.journal.Journal.{Journal}
use Rattle.day.specs.Listing.{Lists, chosen, listing_as, opened}

module _ {V K : Type 0} (number : ℕ) (reads : List ℕ → Result (V × ℕ) Fault) (longest : ℕ) (title : List ℕ) (shown : V → List ℕ) (bytes : List ℕ) (j : Journal K) (o : Opened reads longest number bytes j) where
  -- the events that are chosen of it
  pub open_lists : (methods : Option (List ℕ)) → Lists number reads title shown methods bytes (listing_as title shown (chosen methods (ahead reads j).waits) (ahead reads j).ends)
  open_lists methods = rw (o.bytes_are, o.place_is) (opened _ _ o.head o.holds)

  -- the events that a narrowing over it hands over
  pub narrow_lists : (n : Narrow (Journal K)) (methods : List ℕ) → n.below ≡ j → listed n.methods ≡ take 32 methods
      → Lists number reads title shown (Some methods) bytes (listing_as title shown (only (listed n.methods) (ahead reads n.below).waits) (ahead reads n.below).ends)
  narrow_lists n methods b m = rw (b, m) (open_lists (Some methods))
