-- A gauge that was loaded is a part: the sizes of its list, each in the record of its number, with its lent level.
-- The loaded list has no adjusts, so that every p is the true one.
use mathlib.Core.Path.{◌≡◌, refl, ap, ap₂, ◌∙◌}
use mathlib.Core.List.{List, [], ◌∷◌, map}
use Prim.Native.Nat.{ℕ, suc, ◌+◌, ◌-◌, ◌≤◌, ◌<◌}
use native.Mathlib.Omega.{arith}
use lib.ListN.{length, get_or, drop}
use Rattle.slicing.specs.Item.{Item, size}
use Rattle.slicing.specs.Tree.{gauge}
use Rattle.slicing.specs.Useful.{index_of, gauge_shapes}
use Rattle.slicing.specs.Recorded.{Recorded, in_record, gauge_recorded, part_recorded}
use Rattle.useful.specs.inside.Order.{list_places}
use Rattle.useful.proofs.Places.{place_inside}
use Rattle.arena.specs.Arena.{level, m_word, adjust}
use Rattle.arena.specs.Lazy.{held}
use Rattle.arena.specs.inside.Chain.{All}
use Rattle.loading.specs.inside.Loading.{records_of, Loaded}
use Rattle.arena.specs.inside.Carried.{paired, carried}
use Rattle.arena.proofs.HeldLaws.{held_carried, carried_sums}
use Rattle.parts.specs.inside.Part.{Part}

-- The records of some sizes z of a gauge s whose first size has record r.
abbrev records_in : ℕ → List Item → List Item → List ℕ
records_in r s z = map (λ (k : ℕ). r + k) (map (λ (x : Item). index_of x s) z)

paired_recorded : (b : List ℕ) (r : ℕ) (s z : List Item) → map (m_word b) (records_in r s z) ≡ map (λ (x : Item). x.m) z → paired b (records_in r s z) (map (λ (x : Item). x.p) z) ≡ map (in_record r s) z
paired_recorded b r s [] same = refl
paired_recorded b r s (x ∷ z) same =
    ap₂ (λ (m : ℕ) (l : List Recorded). record { number = r + index_of x s; item = size m x.p } ∷ l) (ap (λ (l : List ℕ). get_or l 0 0) same)
    (paired_recorded b r s z (ap (drop 1) same))

-- Places below n, their records and these records' levels.
all_at : (P : ℕ → Type 0) (l : List ℕ) → ((i : ℕ) → i < length l → P (get_or l i 0)) → All P l
all_at P [] at = tt
all_at P (k ∷ l) at = (at 0 (omega arith), all_at P l (λ i less. at (suc i) (omega arith)))

places_low : (s : List Item) → All (λ k. k < length s) (list_places s)
places_low s = all_at (λ k. k < length s) (list_places s) (place_inside s)

places_inside : (r n : ℕ) (l : List ℕ) → All (λ k. k < n) l → All (λ x. (r ≤ x) × (x < r + n)) (map (λ (k : ℕ). r + k) l)
places_inside r n [] low = tt
places_inside r n (k ∷ l) low = let less = low.0 in ((omega arith, omega arith), places_inside r n l low.1)

pub records_inside : (r : ℕ) (s : List Item) → All (λ x. (r ≤ x) × (x < r + length s)) (records_of r s)
unfolding records_of
records_inside r s = places_inside r (length s) (list_places s) (places_low s)

module _ (levels b lv : List ℕ) (done n : ℕ) (own : (i : ℕ) → i < n → get_or lv i 0 ≡ get_or levels (done + i) 0) where
  places_levels : (l : List ℕ) → All (λ k. k < n) l → map (level b) (map (λ (k : ℕ). done + 1 + k) l) ≡ map (λ (k : ℕ). get_or lv k 0) l → All (λ x. level b x ≡ get_or levels (x - 1) 0) (map (λ (k : ℕ). done + 1 + k) l)
  places_levels [] low same = tt
  places_levels (k ∷ l) low same = (
    ap (λ (x : List ℕ). get_or x 0 0) same ∙ own k low.0 ∙ ap (λ (i : ℕ). get_or levels i 0) (omega arith),
    places_levels l low.1 (ap (drop 1) same),
  )

module _ (levels a b : List ℕ) (h done : ℕ) (lv : List ℕ) (s : List Item) (own : (i : ℕ) → i < length s → get_or lv i 0 ≡ get_or levels (done + i) 0) (d : Loaded a h (done + 1) s lv b) where
  loaded_holds : held b h [] (records_of (done + 1) s) ≡ gauge_recorded (done + 1) s
  unfolding carried records_of list_places gauge_recorded
  loaded_holds =
      held_carried b h (records_of (done + 1) s)
      ∙ carried_sums b (λ k. 0) (adjust b h) (records_of (done + 1) s) d.built.still
      ∙ ap (paired b (records_of (done + 1) s)) d.true_ps
      ∙ paired_recorded b (done + 1) s (gauge_shapes s) d.m_is

  loaded_levels : All (λ x. level b x ≡ get_or levels (x - 1) 0) (records_of (done + 1) s)
  unfolding records_of
  loaded_levels = places_levels levels b lv done (length s) own (list_places s) (places_low s) d.level_is

  pub loaded_part : (gap : ℕ) → Part levels b h (done + 1) (done + 1 + length s) (part_recorded gap (done + 1) (gauge s))
  unfolding part_recorded
  loaded_part gap =
      record {
        list = records_of (done + 1) s;
        built = d.built;
        backed = d.backed;
        holds = loaded_holds;
        inside = records_inside (done + 1) s;
        level_is = loaded_levels;
      }
