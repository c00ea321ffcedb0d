use Rattle.std.proofs.Common.{◌≡◌, ℕ, ◌∙◌, ◌<◌, List, true, arith}
use Rattle.mz_nano.specs.Lists.{In}
use Rattle.mz_nano.specs.Rule.{held}
use Rattle.mz_nano.specs.declared.view.Held.{Held}
use Rattle.mz_nano.specs.CallEffects.{hand_ok}
use Rattle.mz_nano.proofs.HandLemmas.{hand_in}
use Rattle.mz_nano.proofs.nano.Nano.push.Goals as goal

-- the slots of a hand are those of the nano's blocks
within : (blocks n b j c : ℕ) (hand : List Held) → n ≡ blocks → hand_ok n hand ≡ true → In (held b j c) hand → (b < blocks) × (j < 1024)
within blocks n b j c hand k h m = let t = hand_in n (held b j c) hand h m in let l = t.0 in (omega arith, t.1)

pub push_once-requires-clause-within : goal.push_once-requires-clause-within
push_once-requires-clause-within c =
    let seat = c.args.seat.now in
    let s = c.args.s in
    let kb : seat.seat.me.0.geometry.blocks ≡ c.args.self.now.blocks = (λ i. (c.requires.one.0.1 i).blocks) ∙ c.args.self.now.geometry.0 in
    let t = within c.args.self.now.blocks seat.seat.me.0.geometry.blocks s.block s.slot s.class seat.seat.me.0.hand kb seat.at_rest.hand c.requires.mine in
    let l = t.0 in let m = t.1 in let eb = c.block-block.ensures in let ej = c.slot-slot.ensures in
    (omega arith, omega arith)

pub slot_span-requires-clause-exists : goal.slot_span-requires-clause-exists
slot_span-requires-clause-exists c =
    let seat = c.args.seat.now in
    let s = c.args.s in
    let kb : seat.seat.me.0.geometry.blocks ≡ c.args.self.now.blocks = (λ i. (c.requires.one.0.1 i).blocks) ∙ c.args.self.now.geometry.0 in
    let t = within c.args.self.now.blocks seat.seat.me.0.geometry.blocks s.block s.slot s.class seat.seat.me.0.hand kb seat.at_rest.hand c.requires.mine in
    let l = t.0 in let eb = c.block-block.ensures in omega arith
