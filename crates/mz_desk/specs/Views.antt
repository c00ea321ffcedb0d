-- The views of seats: what a register was opened with, the first view, and what a step makes of a view. This project's own.
use Rattle.std.specs.Prelude.{ℕ, ◌+◌, ◌==◌, Bool, true, false, ◌||◌, not, List, [], ◌∷◌, ◌++◌, filter, replicate, slice_set, slice_index_or, Option}
use Rattle.std.specs.List.{list_any}
use Rattle.mz_base.specs.declared.profile.Profile.{Profile}
use Rattle.mz_base.specs.Site.{Site}
use Rattle.mz_events.specs.declared.entry.Entry.{Entry}
use Rattle.mz_events.specs.declared.event.Event.{Event}
use Rattle.mz_book.specs.declared.light.Asked.{Asked}
use Rattle.mz_book.specs.declared.pair.Pair.{Pair}
use Rattle.mz_book.specs.Account.{Account, entry_at}
use Rattle.mz_book.specs.Exchanges.{clash_of}
use Rattle.mz_book.specs.Calls.{without}
use Rattle.mz_book.specs.Keepers.{is_among}
use Rattle.mz_book.specs.Lights.{light_at, add_light, drop_light}
use Rattle.mz_book.specs.Pairs.{pairs_after}
use Rattle.mz_desk.specs.declared.view.SpaceName.{SpaceName}
use Rattle.mz_desk.specs.declared.view.Load.{Load}
use Rattle.mz_desk.specs.declared.view.Win.{Win}
use Rattle.mz_desk.specs.declared.view.View.{View}

-- What a register is opened with: the profile, the space of the keepers, the history so far, the pairs of all callers, and the class of
-- each block of nano, or 0.
pub record Opened : Type 0 where
  pub profile : Profile
  pub space : SpaceName
  pub history : List Entry
  pub pairs : List Pair
  pub classes : List ℕ

abbrev pub site_at : SpaceName → Site
site_at x = record { name = x.name; block = x.block; origin = x.origin; size = x.size }

-- the view of seat 0, while it is the only one
abbrev pub first_view : Opened → View
first_view key = record {
  live = true;
  profile = key.profile;
  space = key.space;
  start = key.history;
  dealt = key.pairs;
  caller = 0;
  given = 1;
  held = [];
  taking = [];
  since = [];
  seen = key.history;
  noted = [];
  pairs = key.pairs;
  lights = [];
  settled = replicate key.profile.nano 0;
  loads = [];
  wins = [];
  clashes = [];
  joined = [];
}

-- the account of a pass whose seat has this view, by its name and the numbers that the pass keeps beside it
abbrev pub view_account : View → List ℕ → ℕ → ℕ → ℕ → Option Asked → Account
view_account v name spare holds founds found = record {
  name = name;
  profile = v.profile;
  caller = v.caller;
  site = site_at v.space;
  between = false;
  held = v.held;
  seen = v.seen;
  noted = v.noted;
  pairs = v.pairs;
  spare = spare;
  holds = holds;
  lights = v.lights;
  settled = v.settled;
  founds = founds;
  found = found;
}

-- the keeper is locked by the seat
abbrev pub has_lock : View → ℕ → Bool
has_lock v k = is_among v.held k || is_among v.taking k

-- the seat, or one that it took in, knows this class of the block
abbrev pub knows_class : View → ℕ → ℕ → Bool
knows_class v b class = (slice_index_or v.settled b 0 == class) || list_any (λ x. slice_index_or x.settled b 0 == class) v.joined

-- the seat took in that of this number
abbrev pub took_in : View → ℕ → Bool
took_in v c = list_any (λ x. x.caller == c) v.joined

abbrev pub load_of : ℕ → ℕ → Load
load_of i n = record { word = i; found = n }

abbrev pub win_of : ℕ → ℕ → ℕ → Win
win_of i x n = record { word = i; from = x; to = n }

-- an exchange found another word
abbrev pub clashed : View → ℕ → ℕ → ℕ → View
clashed v i x n = record v { clashes = clash_of i x n ∷ v.clashes }

-- take-lock: the keeper k is locked, after h entries
abbrev pub locked : View → ℕ → ℕ → View
locked v k h = record v { taking = k ∷ []; since = record { keeper = k; from = h } ∷ v.since; wins = win_of (k + 1) 0 (v.caller + 1) ∷ v.wins }

-- look: the locked keeper is taken, and these entries of others came
abbrev pub looked : View → List Entry → ℕ → View
looked v others n = record v { held = v.held ++ v.taking; taking = []; seen = v.seen ++ others; loads = load_of 0 n ∷ v.loads }

-- draw-ticket: these entries of others came, and then its own
abbrev pub drawn : View → List Entry → ℕ → Event → View
drawn v others n e = record v {
  seen = (v.seen ++ others) ++ entry_at n v.caller e ∷ [];
  noted = v.noted ++ entry_at n v.caller e ∷ [];
  pairs = pairs_after v.caller v.pairs e;
}

-- free-lock: the keeper k is given back
abbrev pub freed : View → ℕ → View
freed v k = record v { held = without k v.held; since = filter (λ x. not (x.keeper == k)) v.since }

-- take-light: the word of a slot was as expected, and its light is held
abbrev pub lit : View → ℕ → ℕ → ℕ → ℕ → View
lit v i b j expect = record v { lights = add_light (light_at b j) v.lights; wins = win_of i expect (2 + v.caller) ∷ v.wins }

-- store-light: the light of a slot is given back
abbrev pub unlit : View → ℕ → ℕ → View
unlit v b j = record v { lights = drop_light (light_at b j) v.lights }

-- settle-class: the block has this class, and the seat knows it
abbrev pub knowing : View → ℕ → ℕ → View
knowing v b class = record v { settled = slice_set v.settled b class }

abbrev pub settled_first : View → ℕ → ℕ → ℕ → View
settled_first v i b class = record (knowing v b class) { wins = win_of i 0 class ∷ v.wins }

-- the pairs of all seats
abbrev pub all_pairs : List View → List Pair
all_pairs [] = []
all_pairs (v ∷ vs) = v.pairs ++ all_pairs vs

-- the pairs of one caller
abbrev pub pairs_of : ℕ → List Pair → List Pair
pairs_of c pairs = filter (λ h. h.caller == c) pairs

-- and those of all others
abbrev pub pairs_besides : ℕ → List Pair → List Pair
pairs_besides c pairs = filter (λ h. not (h.caller == c)) pairs
