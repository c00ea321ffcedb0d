-- How a view is cut in two, and how two are made one.
use Rattle.std.specs.Prelude.{ℕ, ◌+◌, ◌-◌, false, if◌then◌else◌, List, [], ◌∷◌, ◌++◌}
use Rattle.mz_nano.specs.declared.view.View.{View}
use Rattle.mz_nano.specs.Rule.{first_view, held}
use Rattle.mz_nano.specs.Lists.{without, is_at}
use Rattle.mz_nano.specs.declared.view.Held.{Held}

-- a seat gives two parts to a new one
abbrev pub giver : View → View
giver v = record v { parts = v.parts - 2 }

abbrev pub given_view : View → View
given_view v = record (first_view v.geometry) { parts = 2 }

-- a seat with the hand of another
abbrev pub joined : View → View → View
joined v w = record v { parts = v.parts + w.parts; hand = w.hand ++ v.hand; stored = [] }

abbrev pub spent_view : View
spent_view = record { live = false; geometry = record { blocks = 0; most_gen = 0; seats = 0; edge = record { space = record { name = 0; block = 0; origin = 0; size = 0 }; first = 0; bytes = [] } }; parts = 0; hand = []; vacant = []; known = []; first_links = []; stored = []; claim = []; claimed = []; loads = []; wins = []; clashes = [] }

-- a seat without a slot that it gives away, and the seat that brings it
abbrev pub without_slot : ℕ → ℕ → View → View
without_slot b j v = record v { parts = v.parts - 1; hand = without b j v.hand; stored = [] }

abbrev pub bringer : ℕ → ℕ → ℕ → View → View
bringer b j c v = record (first_view v.geometry) { parts = 1; hand = held b j c ∷ [] }

abbrev pub class_in : ℕ → ℕ → List Held → ℕ
class_in b j [] = 0
class_in b j (h ∷ hs) = if is_at b j h then h.class else class_in b j hs

abbrev pub bring : ℕ → ℕ → View → View
bring b j v = bringer b j (class_in b j v.hand) v

-- one part goes to a new seat
abbrev pub lender : View → View
lender v = record v { parts = v.parts - 1 }

abbrev pub lent_view : View → View
lent_view v = record (first_view v.geometry) { parts = 1 }
