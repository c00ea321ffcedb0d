use Rattle.std.proofs.Common.{◌≡◌, ℕ, ◌+◌, ◌-◌, ◌*◌, sym, ap, ◌∙◌, subst, arith}
use Rattle.mz_nanoword.specs.declared.word.NanoWord.{NanoWord}
use Rattle.mz_nanoword.specs.Words.{word_of}
use Rattle.mz_nano.specs.StepEffects.{slot_of}
use Rattle.mz_nano.specs.CallEffects.{TookFirst}
use Rattle.mz_nano.proofs.PopEffects.{none_loaded, took_loaded, lost_loaded, popped_loaded, popped_as}
use Rattle.mz_nano.proofs.nano.Nano.pop_once.Goals as goal

pub returns-in-Nothing-clause-err : goal.returns-in-Nothing-clause-err
returns-in-Nothing-clause-err c =
    let q = c.requires in
    let s = c.in-Nothing.ensures in
    none_loaded c.args.seat.now.me c.scan.new.seat.me s.loaded.0 c.args.class q.live q.at_rest.0 q.at_rest.1 q.at_rest.2 s.loaded.1 s.carried s.loaded.2.0 s.loaded.2.1

pub returns-in-Ok-clause-ok : goal.returns-in-Ok-clause-ok
returns-in-Ok-clause-ok c =
    let q = c.requires in
    let me = c.args.seat.now.me in
    let s = c.in-Unassigned.ensures in
    let ld = s.loaded in
    let b : ℕ = c.in-Unassigned.block in
    let o = c.slot_span.ensures in
    let least = c.args.self.now.least in
    let kg : me.0.geometry.most_gen ≡ c.args.self.now.most_gen = (λ i. (q.geometry i).most_gen) ∙ c.args.self.now.geometry.1 in (
      popped_as me c.claim.new.seat.me b c.slot_span.result.block 0 c.slot_span.result.slot c.args.class c.in-Ok.parcel c.slot_span.result.span o.which.0 o.which.1 o.span
          (popped_loaded me c.scan.new.seat.me c.claim.new.seat.me ld.0 b c.args.class c.in-Ok.parcel q.class.0 q.class.1 (omega arith) ld.2.0 ld.1 ld.2.1 ld.2.2 c.in-Ok.ensures.ok),
      o.which.2,
      o.base,
    )

pub returns-in-Ok-take_first-clause-ok : goal.returns-in-Ok-take_first-clause-ok
returns-in-Ok-take_first-clause-ok c =
    let q = c.requires in
    let me = c.args.seat.now.me in
    let s = c.in-Usable.ensures in
    let ld = s.loaded in
    let b : ℕ = c.in-Usable.block in
    let w : ℕ = c.in-Usable.expected in
    let j : ℕ = c.in-Usable.word.next - 1 in
    let i : ℕ = c.args.self.now.blocks + b * 1024 + j in
    let o = c.slot_span-in-Ok-take_first.ensures in
    let span = c.in-Ok-take_first.parcel in
    let is = ld.2.3 in
    let u = ld.2.4 in
    let cl = q.class in
    let uc = u.class_ in
    let next : c.in-Usable.word.next ≡ (word_of w).next = ap (λ (x : NanoWord). x.next) is in
    let state : c.in-Usable.word.state ≡ c.args.class = ap (λ (x : NanoWord). x.state) is ∙ uc in
    let first = ld.2.5.first (omega arith, omega arith) u.free in
    let most = first.1 in let some = first.0 in
    let ej : slot_of w ≡ j = ap (λ (n : ℕ). n - 1) (sym next) in
    let kb : me.0.geometry.blocks ≡ c.args.self.now.blocks = (λ i. (q.geometry i).blocks) ∙ c.args.self.now.geometry.0 in
    let l : ℕ = c.load_link-link.result in
    let took : TookFirst c.load_link-link.new.seat.me b j c.args.class w l span c.take_first.new.seat.me =
    subst (λ (k : ℕ). TookFirst c.load_link-link.new.seat.me b j k w l span c.take_first.new.seat.me) state
    (subst (λ (n : ℕ). TookFirst c.load_link-link.new.seat.me b n c.in-Usable.word.state w l span c.take_first.new.seat.me) ej c.in-Ok-take_first.ensures.ok) in (
      popped_as me c.take_first.new.seat.me b c.slot_span-in-Ok-take_first.result.block j c.slot_span-in-Ok-take_first.result.slot c.args.class span c.slot_span-in-Ok-take_first.result.span o.which.0 o.which.1 o.span
          (took_loaded me c.scan.new.seat.me c.load_link-link.new.seat.me c.take_first.new.seat.me ld.0 b j c.args.class w i c.load_link-link.result span
          ld.2.0 (omega arith) q.live q.at_rest.0 q.at_rest.1 q.at_rest.2 ld.1 ld.2.2 u (omega arith) ld.2.6 s.carried c.load_link-link.ensures.view c.load_link-link.ensures.carried (ap (λ (x : ℕ). x + b * 1024 + j) (sym kb)) took),
      o.which.2,
      o.base,
    )

pub returns-in-Err-take_first-clause-err : goal.returns-in-Err-take_first-clause-err
returns-in-Err-take_first-clause-err c =
    let q = c.requires in
    let s = c.in-Usable.ensures in
    let ld = s.loaded in
    let b : ℕ = c.in-Usable.block in
    let i : ℕ = c.args.self.now.blocks + b * 1024 + (c.in-Usable.word.next - 1) in
    let x = c.in-Err-take_first.ensures.err in
    lost_loaded c.args.seat.now.me c.scan.new.seat.me c.load_link-link.new.seat.me c.take_first.new.seat.me ld.0 b c.args.class c.in-Usable.expected i c.load_link-link.result c.in-Err-take_first.found
    ld.2.0 q.live q.at_rest.0 q.at_rest.1 q.at_rest.2 ld.1 ld.2.2 ld.2.4 ld.2.6 s.carried c.load_link-link.ensures.view c.load_link-link.ensures.carried x.0 x.1
