-- Packing and unpacking undo each other.
use Rattle.std.proofs.Common.{◌≡◌, ℕ, ◌+◌, ◌*◌, ◌/◌, ◌%◌, ◌^◌, ◌<◌, arith}
use Rattle.mz_nanoword.specs.declared.word.NanoWord.{NanoWord}
use Rattle.mz_nanoword.specs.Words.{Fits, pack_of, word_of}

pub word_of-fits : (w : ℕ) → w < 2 ^ 63 → Fits (word_of w)
unfolding word_of
word_of-fits w l = record { next = omega arith; free = omega arith; state = omega arith; generation = omega arith }

pub pack_of-word_of : (w : ℕ) → pack_of (word_of w) ≡ w
unfolding word_of pack_of
pack_of-word_of w = omega arith

pub pack_of-small : (x : NanoWord) → Fits x → pack_of x < 2 ^ 63
unfolding pack_of
pack_of-small x f = omega arith

next_is : (n f s g : ℕ) → n < 2048 → (n + f * 2048 + s * 4194304 + g * 134217728) % 2048 ≡ n
next_is n f s g a = omega arith

free_is : (n f s g : ℕ) → n < 2048 → f < 2048 → ((n + f * 2048 + s * 4194304 + g * 134217728) / 2048) % 2048 ≡ f
free_is n f s g a b = omega arith

state_is : (n f s g : ℕ) → n < 2048 → f < 2048 → s < 32 → ((n + f * 2048 + s * 4194304 + g * 134217728) / 4194304) % 32 ≡ s
state_is n f s g a b c = omega arith

generation_is : (n f s g : ℕ) → n < 2048 → f < 2048 → s < 32 → (n + f * 2048 + s * 4194304 + g * 134217728) / 134217728 ≡ g
generation_is n f s g a b c = omega arith

pub word_of-pack_of : (x : NanoWord) → Fits x → word_of (pack_of x) ≡ x
unfolding word_of pack_of
word_of-pack_of x f k = record {
  next = next_is x.next x.free x.state x.generation f.next k;
  free = free_is x.next x.free x.state x.generation f.next f.free k;
  state = state_is x.next x.free x.state x.generation f.next f.free f.state k;
  generation = generation_is x.next x.free x.state x.generation f.next f.free f.state k;
}
