-- The text behind a printed run: the listing, and the statistics. This project's own.
use Rattle.std.specs.Prelude.{ℕ, Bool, ◌&&◌, List, [], ◌∷◌, ◌++◌, map, codes}
use Rattle.std.specs.List.{flat_map}
use Rattle.std.specs.Fmt.{decimal}
use Rattle.mz_trace.specs.declared.tail.Listed.{Listed}
use Rattle.mz_trace.specs.declared.tail.Statistics.{Statistics}
use Rattle.mz_trace.specs.declared.tail.Figures.{Figures}
use Rattle.mz_words.specs.declared.kind.Word.TheVariants.{Number, Range, Zone}
use Rattle.mz_words.specs.declared.table.Form.TheVariants.{Listed as Listing}
use Rattle.mz_words.specs.declared.sentence.Sentence.{Sentence}
use Rattle.mz_words.specs.Numbers.{is_u64}
use Rattle.mz_words.specs.Sentences.{sentence, sentence_words, words_fit}
use Rattle.mz_words.specs.Lines.{line_text}

-- a live block, with its range and the name of its zone
abbrev pub listed_sentence : Listed → Sentence
listed_sentence b = sentence Listing (Number b.a ∷ Number b.s ∷ Range b.range ∷ Zone b.zone ∷ [])

abbrev pub listed_words : Listed → List (List ℕ)
listed_words b = sentence_words (listed_sentence b)

-- one that a line can have
abbrev pub listed_fits : Listed → Bool
listed_fits b = words_fit 0 [] (listed_sentence b).words

-- the four statistics, a line each
abbrev pub statistics_lines : Statistics → List (List (List ℕ))
statistics_lines s =
    (codes "blocks_in_use" ∷ decimal s.blocks_in_use ∷ []) ∷ (codes "size_in_use" ∷ decimal s.size_in_use ∷ [])
    ∷ (codes "max_size_in_use" ∷ decimal s.max_size_in_use ∷ []) ∷ (codes "size_allocated" ∷ decimal s.size_allocated ∷ []) ∷ []

-- the lines behind a printed run
abbrev pub tail_lines : Figures → List (List (List ℕ))
tail_lines t = map listed_words t.listing ++ statistics_lines t.statistics

abbrev pub tail_text : Figures → List ℕ
tail_text t = flat_map line_text (tail_lines t)

abbrev pub statistics_fit : Statistics → Bool
statistics_fit s = is_u64 s.blocks_in_use && is_u64 s.size_in_use && (is_u64 s.max_size_in_use && is_u64 s.size_allocated)
