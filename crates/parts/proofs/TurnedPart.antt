-- A part that was turned is a part of the turned items, at its new head.
-- The turned records have the true p as m and the m as p, in the order reversed, and no adjust covers them.
use mathlib.Core.Path.{◌≡◌, refl, sym, ap, ◌∙◌}
use mathlib.Core.Bool.{Bool, true, false}
use mathlib.Core.List.{List, [], ◌∷◌, map, reverse, reverse_aux}
use Prim.Native.Nat.{ℕ, ◌-◌, ◌≤◌, ◌<◌}
use native.Mathlib.Omega.{arith}
use lib.ListN.{length, get_or, length-map}
use Rattle.slicing.specs.Item.{size}
use Rattle.slicing.specs.Recorded.{Recorded, swap_recorded, turn_recorded}
use Rattle.arena.specs.Arena.{level, m_word, adjust}
use Rattle.arena.specs.Lazy.{held}
use Rattle.arena.specs.inside.Chain.{All}
use Rattle.turning.specs.inside.Turning.{Turnable, Turned}
use Rattle.arena.proofs.Frames.{all_both}
use Rattle.arena.proofs.PutLaws.{same_refl}
use Rattle.arena.specs.inside.Carried.{paired, carried}
use Rattle.arena.proofs.HeldLaws.{held_carried, carried_sums}
use Rattle.parts.specs.inside.Part.{Part}
use Rattle.parts.specs.inside.Joining.{Turns, Faces}
use Rattle.parts.proofs.PartLaws.{away_out, part_length}

paired_back : (b rs xs ps qs : List ℕ) → length ps ≡ length rs → paired b (reverse_aux rs xs) (reverse_aux ps qs) ≡ reverse_aux (paired b rs ps) (paired b xs qs)
paired_back b [] xs [] qs e = refl
paired_back b [] xs (p ∷ ps) qs e = absurd (omega arith)
paired_back b (r ∷ rs) xs [] qs e = absurd (omega arith)
paired_back b (r ∷ rs) xs (p ∷ ps) qs e = paired_back b rs (r ∷ xs) ps (p ∷ qs) (omega arith)

paired_swap : (a b rs : List ℕ) → paired b rs (map (m_word a) rs) ≡ map swap_recorded (paired a rs (map (m_word b) rs))
paired_swap a b [] = refl
paired_swap a b (r ∷ rs) =
    ap (λ (l : List Recorded). record { number = r; item = size (m_word b r) (m_word a r) } ∷ l) (paired_swap a b rs)

all_back : (P : ℕ → Type 0) (rs xs : List ℕ) → All P rs → All P xs → All P (reverse_aux rs xs)
all_back P [] xs p q = q
all_back P (r ∷ rs) xs p q = all_back P rs (r ∷ xs) p.1 (p.0, q)

turned_holds : (a b : List ℕ) (h k : ℕ) (rs : List ℕ) → Turned a h k rs b → held b k [] (reverse rs) ≡ turn_recorded (held a h [] rs)
unfolding turn_recorded carried
turned_holds a b h k rs t =
    held_carried b k (reverse rs) ∙ carried_sums b (λ i. 0) (adjust b k) (reverse rs) t.built.still
    ∙ ap (paired b (reverse rs)) t.true_ps
    ∙ paired_back b rs [] (map (m_word a) rs) [] (length-map rs (m_word a))
    ∙ ap reverse (paired_swap a b rs ∙ ap (λ (ps : List ℕ). map swap_recorded (paired a rs ps)) t.m_is)
    ∙ ap (λ (l : List Recorded). reverse (map swap_recorded l)) (sym (held_carried a h rs))

part_turned : (levels a b : List ℕ) (h k lo hi : ℕ) (l : List Recorded) (p : Part levels a h lo hi l) → Turned a h k p.list b → Part levels b k lo hi (turn_recorded l)
part_turned levels a b h k lo hi l p t =
    record {
      list = reverse p.list;
      built = t.built;
      backed = t.backed;
      holds = turned_holds a b h k p.list t ∙ ap turn_recorded p.holds;
      inside = all_back (λ x. (lo ≤ x) × (x < hi)) p.list [] p.inside tt;
      level_is =
          all_back (λ x. level b x ≡ get_or levels (x - 1) 0) p.list []
          (all_both p.list (λ x same e. same ∙ e) t.levels p.level_is) tt;
    }

module _ (levels a : List ℕ) (h spare lo hi : ℕ) (l : List Recorded) (g : Turns levels a h spare lo hi l) where
  pub facing_turns : Turnable a h spare g.part.list
  facing_turns =
      let long = g.ranged.long in
      let high = g.spare_high in
      let low = g.spare_low in
      let most = g.ranged.most in
      record {
        linked = g.part.built.linked;
        has = omega arith;
        apart = g.apart;
        away = away_out lo hi spare g.part.list (λ i. let less = i.1 in omega arith) g.part.inside;
        few = let few = g.few in let same = part_length levels a a h lo hi l g.part in omega arith;
      }

  pub facing_turned : (b : List ℕ) → Turned a h spare g.part.list b → Faces levels a b h spare lo hi l true spare
  facing_turned b t =
      record {
        length_kept = t.long;
        head = refl;
        part = part_turned levels a b h spare lo hi l g.part t;
        outside = λ x other out. t.outside x other (away_out lo hi x g.part.list out g.part.inside);
      }

  pub facing_stays : Faces levels a a h spare lo hi l false h
  facing_stays =
      record { length_kept = refl; head = refl; part = g.part; outside = λ x other out. same_refl a x }

-- The calls of the function, and its two ways out.
pub facing_ready : (a : List ℕ) (h spare : ℕ) → ((levels : List ℕ) × (lo : ℕ) × (hi : ℕ) × (l : List Recorded) × Turns levels a h spare lo hi l) → (rs : List ℕ) × Turnable a h spare rs
facing_ready a h spare p = (p.4.part.list, facing_turns p.0 a h spare p.1 p.2 p.3 p.4)

pub facing_across : (a b : List ℕ) (h spare : ℕ) (t r : Bool) → r ≡ t → r ≡ true → ((rs : List ℕ) → Turnable a h spare rs → Turned a h spare rs b) → (levels : List ℕ) (lo hi : ℕ) (l : List Recorded) → Turns levels a h spare lo hi l → Faces levels a b h spare lo hi l t spare
facing_across a b h spare t r is e turns levels lo hi l g =
    rw (sym is ∙ e) (facing_turned levels a h spare lo hi l g b (turns g.part.list (facing_turns levels a h spare lo hi l g)))

pub facing_along : (a : List ℕ) (h spare : ℕ) (t r : Bool) → r ≡ t → r ≡ false → (levels : List ℕ) (lo hi : ℕ) (l : List Recorded) → Turns levels a h spare lo hi l → Faces levels a a h spare lo hi l t h
facing_along a h spare t r is e levels lo hi l g = rw (sym is ∙ e) (facing_stays levels a h spare lo hi l g)
