-- The fields of a nano block's word, and the word of its fields. This project's own.
use Rattle.std.specs.Prelude.{ℕ, ◌+◌, ◌*◌, ◌/◌, ◌%◌, ◌^◌, ◌<◌}
use Rattle.mz_nanoword.specs.declared.word.NanoWord.{NanoWord}

-- each field has room in its bits
pub record Fits (x : NanoWord) : Type 0 where
  pub next : x.next < 2 ^ 11
  pub free : x.free < 2 ^ 11
  pub state : x.state < 2 ^ 5
  pub generation : x.generation < 2 ^ 36

-- the word with the fields x: `next` from bit 0 on, `free` from bit 11, `state` from bit 22, `generation` from bit 27
unfoldable pub pack_of : NanoWord → ℕ
pack_of x = x.next + x.free * 2 ^ 11 + x.state * 2 ^ 22 + x.generation * 2 ^ 27

-- the fields of the word w
unfoldable pub word_of : ℕ → NanoWord
word_of w = record { next = w % 2 ^ 11; free = (w / 2 ^ 11) % 2 ^ 11; state = (w / 2 ^ 22) % 2 ^ 5; generation = w / 2 ^ 27 }
