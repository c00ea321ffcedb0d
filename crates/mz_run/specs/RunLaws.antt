-- The laws of histories on which a run rests, together.
use Rattle.std.specs.Prelude.{◌≡◌, ◌≤◌, ◌+◌, ℕ, List, ◌++◌, length, Option, Some, Contains, slice_get}
use Rattle.mz_base.specs.declared.profile.Profile.{Profile}
use Rattle.mz_base.specs.Space.{Block}
use Rattle.mz_events.specs.declared.entry.Entry.{Entry}
use Rattle.mz_events.specs.State.{State, opening}
use Rattle.mz_events.specs.History.{AreLawful, by_ticket}
use Rattle.mz_record.specs.Moments.{state_at}
use Rattle.mz_record.specs.Served.{Request, Serves}
use Rattle.mz_record.specs.Dropped.{IsDropped}

pub record RunLaws : Type 0 where
  pub index : (p : Profile) (s : State) (es : List Entry) → AreLawful p s es → (i : ℕ) (e : Entry) → slice_get es i ≡ Some e → e.ticket ≡ s.entries + i
  pub in_order : (p : Profile) (s : State) (es : List Entry) → AreLawful p s es → by_ticket es ≡ es
  pub state : (p : Profile) (h later : List Entry) (n : ℕ) → AreLawful p opening (h ++ later) → n ≤ length h → state_at p (h ++ later) n ≡ state_at p h n
  pub served : (p : Profile) (h later : List Entry) (q : Request) (es : List Entry) (got : Option Block) → AreLawful p opening (h ++ later) → ((e : Entry) → Contains es e → Contains h e) → Serves p h q es got → Serves p (h ++ later) q es got
  pub dropped : (p : Profile) (h later : List Entry) (b : Block) (es : List Entry) → AreLawful p opening (h ++ later) → ((e : Entry) → Contains es e → Contains h e) → IsDropped p h b es → IsDropped p (h ++ later) b es
