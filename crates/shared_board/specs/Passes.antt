-- What holds of a pass: its view and its book tell the same.
use Rattle.std.specs.Prelude.{◌≡◌, ◌≢◌, ◌⊎◌, ℕ, ◌+◌, ◌*◌, ◌<◌, ◌≤◌, min, nat_eq, cond, Bool, ℤ, List, [], ◌∷◌, length, All, Option, None, Some}
use Rattle.sim_game.specs.declared.Side.{Side}
use Rattle.sim_game.specs.declared.Side.TheVariants.{One, Two}
use Rattle.sim_game.specs.Model.{GameModel, Reachable}
use Rattle.sim_game.specs.Sides.{IsNoTighter, better, opening_bound, state_bound, end_bound}
use Rattle.plan_book.specs.declared.Entry.{Entry}
use Rattle.plan_book.specs.Backed.{IsBacked}
use Rattle.plan_book.specs.Entries.{IsEntry}
use Rattle.shared_board.specs.Words.{word_of, as_bound, opening_word}
use Rattle.shared_board.specs.Rule.{Has, seen, seen_at}
use Rattle.shared_board.specs.Plays.{AllNamed}
use Rattle.shared_board.specs.declared.view.View.{View}

-- the key of a row, where it is known
abbrev pub known_key : List (ℕ × ℕ) → ℕ → Option ℕ
known_key [] row = None
known_key (p ∷ ps) row = cond (nat_eq p.0 row) (Some p.1) (known_key ps row)

module _ {G : Type 0} where
  -- the entry was posted in a row whose key the view knows
  pub record IsPostedEntry (v : View G) (e : Entry) : Type 0 where
    pub row : ℕ
    pub known : Has (row, e.key) v.keys
    pub posted : Has (row, e.side, word_of e.bound) v.posted

  -- what was posted has an entry
  pub record HasPostedEntry (v : View G) (entries : List Entry) (i : ℕ) (side : Side) (x : ℕ) : Type 0 where
    pub entry : Entry
    pub booked : Has entry entries
    pub same_side : entry.side ≡ side
    pub same_bound : word_of entry.bound ≡ x
    pub known : Has (i, entry.key) v.keys

module _ {S G : Type 0} (m : GameModel S) where
  -- the tightest bound that the view has seen in the rows of the key, else the opening bound
  abbrev pub seen_in : Side → View G → List (ℕ × ℕ) → ℕ → ℤ
  seen_in side v [] key = opening_bound m side
  seen_in side v (p ∷ ps) key = cond (nat_eq p.1 key)
      (better side (as_bound (seen_at m side v p.0)) (seen_in side v ps key)) (seen_in side v ps key)

  abbrev pub seen_by : View G → Side → ℕ → ℤ
  seen_by v side key = seen_in side v v.keys key

  -- the better of what the view has seen at the state and what holds of every value of it
  abbrev pub known_by : View G → Side → S → ℤ
  known_by v side s = better side (seen_by v side (m.key s)) (state_bound m side s)

  -- the number says no more for the side than the payoff of an end, or what is known at the state
  abbrev pub IsKnown : View G → Side → S → ℤ → Type 0
  IsKnown v side s x = IsNoTighter side x (cond (nat_eq (m.rank s) 0) (end_bound m s) (known_by v side s))

  -- what the view has seen of a row is the opening bound, or it knows the row's key
  abbrev pub IsUnseen : View G → Side → ℕ → Type 0
  IsUnseen v side i = (seen_at m side v i ≡ opening_word m side) ⊎ ((k : ℕ) × Has (i, k) v.keys)

  -- the book beside the view
  pub record IsTold (v : View G) (total : ℕ) (entries : List Entry) : Type 0 where
    pub named : AllNamed m v.keys
    pub lawful : All (IsEntry m total (IsKnown v)) entries
    pub entered : All (IsPostedEntry v) entries
    pub booked : (i : ℕ) (side : Side) (x : ℕ) → Has (i, side, x) v.posted → HasPostedEntry v entries i side x
    pub unseen : (side : Side) (i : ℕ) → IsUnseen v side i

-- the later view knows no less: neither keys nor bounds
pub record KnowsNoLess {S G : Type 0} (m : GameModel S) (old new : View G) : Type 0 where
  pub keys : (i k : ℕ) → Has (i, k) old.keys → Has (i, k) new.keys
  pub seen : (side : Side) (key : ℕ) → IsNoTighter side (seen_by m old side key) (seen_by m new side key)

module _ {S G : Type 0} (model : G → GameModel S) where
  pub record IsPass (words : ℕ) (v : View G) (slots : List (ℕ × Unit {0})) (total : ℕ) (entries : List Entry)
      (lead : Bool) (issued held : ℕ) : Type 0 where
    pub no_slots : slots ≡ []
    pub leads : v.lead ≡ lead
    pub issues : v.issued ≡ issued
    pub holds : held ≡ min (length v.tickets) 4294967295
    pub holder : v.tickets ≢ []
    pub few : issued ≤ 65535
    pub inside : (i k : ℕ) → Has (i, k) v.keys → 3 * i + 3 < words
    pub shaped : (side : Side) → 3 * length (seen side v) + 1 ≡ words
    pub told : (g : G) → v.game ≡ Some g → IsTold (model g) v total entries

-- what an answer tells of a bound x in row i: no looser than what the view had seen, in range, and backed at the state
-- of each key that the view knows there
pub record IsBoundAnswer {S G : Type 0} (m : GameModel S) (side : Side) (v : View G) (i : ℕ) (x : ℤ) : Type 0 where
  pub no_looser : IsNoTighter side (as_bound (seen_at m side v i)) x
  pub low : IsNoTighter One (opening_bound m One) x
  pub high : IsNoTighter Two (opening_bound m Two) x
  pub backed : (k : ℕ) → Has (i, k) v.keys → (s : S) → Reachable m s → m.key s ≡ k → IsBacked m side s x
