-- What the parts of a space own names no thread.
use Rattle.std.proofs.Common.{ℕ, zero, suc, ◌+◌, List, [], ◌∷◌, Bool, true, false, length, take, drop}
use base.Fraction.{full_share}
use base.Fml.{GName}
use base.Shift.{Keyless}
use types.Keyed.{token, entry_keyless}
use denote.Builtin.{u8}
use denote.Param.Send.{IsSend, IsSync, part_keyless, sendable, struct_send, struct_sync}
use denote.RawPtr.Bytes.{bytes}
use denote.Struct.Declared as declared
use Rattle.std.specs.Vec.{with_items}
use Rattle.std.specs.contracts.alloc.Global as G
use Rattle.std.specs.contracts.impls.GlobalAllocator.TheImpl as GA
use Rattle.std_alloc.proofs.SendSync.{Vec-send}
use Rattle.mz_base.specs.Site.{Site}
use Rattle.mz_ground.specs.Ownership.{tickets, plot_owns, kept_owns}
use Rattle.mz_ground.specs.contracts.raw.Sole as Sole
use Rattle.mz_ground.specs.contracts.raw.Sole.TheInside as Inside

pub byte-send : IsSend u8
byte-send = search sendable

bytes-keyless : (xs : List ℕ) (b o : ℕ) → Keyless (bytes full_share xs b o)
bytes-keyless [] b o = tt
bytes-keyless (x ∷ xs) b o = (part_keyless u8 byte-send full_share x b o, bytes-keyless xs b (o + 1))

pub tickets-keyless : (γ : GName) (a n : ℕ) → Keyless (tickets γ a n)
tickets-keyless γ a zero = tt
tickets-keyless γ a (suc n) = (entry_keyless token γ a tt, tickets-keyless γ (a + 1) n)

pub plot-keyless : (s : Site) (a : ℕ) (xs : List ℕ) → Keyless (plot_owns s a xs)
plot-keyless s a xs = (bytes-keyless xs s.block (s.origin + a), tickets-keyless s.name a (length xs))

pub kept-keyless : (s : Site) (a Q : ℕ) (fs : List Bool) (xs : List ℕ) → Keyless (kept_owns s a Q fs xs)
kept-keyless s a Q [] xs = tt
kept-keyless s a Q (true ∷ fs) xs = kept-keyless s (a + Q) Q fs (drop Q xs)
kept-keyless s a Q (false ∷ fs) xs = (plot-keyless s a (take Q xs), kept-keyless s (a + Q) Q fs (drop Q xs))

pub sole-send : IsSend G.the_row → denote.Param.Send.Frees GA.ghosts (GA.ghosts.dealloc_token) → IsSend Sole.the_row
sole-send s f = record {
  owned = λ e vs. (
    (λ _. tt),
    λ v. (
      tt,
      λ xs. (
        (tt, bytes-keyless xs e.block (e.origin + 0)),
        (struct_send (declared.shape Inside.the_type) (Vec-send u8 G.the_row GA.ghosts byte-send s f, tt)).owned (with_items v.vec xs, tt) vs,
      ),
    ),
  );
  leaving = λ k x w. tt;
}
