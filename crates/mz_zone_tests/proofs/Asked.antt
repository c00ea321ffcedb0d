-- A rack by itself: after each request another one can be made.
use Rattle.std.proofs.Common.{◌≡◌, ℕ, [], ◌∷◌, ◌++◌, Some, Ok, ap, sym, subst, ◌∙◌, arith}
use Rattle.std.specs.Prelude.{Result}
use Rattle.mz_base.specs.declared.profile.Profile.{Profile}
use Rattle.mz_book.specs.Account.{Account, hand}
use Rattle.mz_book.specs.Plain.{Reserves, ActsAs}
use Rattle.mz_rack.specs.declared.lot.Null.{Null}
use Rattle.mz_rack.specs.Lots.{LotView}
use Rattle.mz_rack.specs.Serving.{CanServe, Answers}
use Rattle.mz_base.specs.Lists.{has_block}
use Rattle.mz_book.specs.Pairs.{hand_among}
use Rattle.mz_rack.specs.Ways.{request_of}
use Rattle.mz_rack.specs.Freeing.{block_of, IsFreeable}
use Rattle.mz_zone_tests.specs.Tested.{HandLaws}
use Rattle.mz_zone_tests.proofs.Tested.{has_last}

pub can_as : (s t : Account) (p : Profile) (z c : ℕ) → CanServe s p z 0 → ActsAs s c t → CanServe t p z 0
can_as s t p z c can acts =
    subst (λ u. CanServe u p z 0) (sym acts.after) (record {
      profile = can.profile;
      zone_open = can.zone_open;
      nothing_held = record { keepers = can.nothing_held.keepers; lights = can.nothing_held.lights };
      room = omega arith;
    })

pub can_with : (s t : Account) (p : Profile) (z n : ℕ) → CanServe s p z 0 → Reserves s n t → CanServe t p z n
can_with s t p z n can more =
    subst (λ u. CanServe u p z n) (sym more.after) (record {
      profile = can.profile;
      zone_open = can.zone_open;
      nothing_held = record { keepers = can.nothing_held.keepers; lights = can.nothing_held.lights };
      room = more.room;
    })

pub can_again : (s t : Account) (p : Profile) (z y m n al : ℕ) (got : Result LotView Null) → CanServe s p y m → Answers s z n al got t → CanServe t p y 0
can_again s t p z y m n al got can answers =
    let adds = answers.grows.adds in
    record {
      profile = adds.same.profile ∙ can.profile;
      zone_open = adds.zones y ∙ can.zone_open;
      nothing_held = answers.nothing_held;
      room = omega arith;
    }

-- a block that was served may be freed by the same caller
pub freeable : (s t u : Account) (z n al k : ℕ) (l : LotView) → HandLaws → Answers s z n al (Ok l) t → Reserves t k u → IsFreeable u l
freeable s t u z n al k l H answers more =
    let adds = answers.grows.adds in
    let b = block_of l in
    let hand_is : hand t ≡ hand s ++ b ∷ [] =
    ap (λ c. hand_among c t.pairs) adds.same.caller ∙ (ap (λ ps. hand_among s.caller ps) adds.pairs ∙ (H.through s.caller s.pairs answers.mine ∙ H.hand_served s.profile t.seen (request_of s.caller z n al) answers.mine (Some b) (hand s) answers.serves.served)) in
    subst (λ y. IsFreeable y l) (sym more.after) (record {
      in_hand = ap (λ h. has_block h b) hand_is ∙ has_last (hand s) b;
      space = answers.answer.1 ∙ sym adds.same.site;
    })
