-- A part's list stands as long as its head and the records of its range do, and goes with its head to another record.
-- Everything said of a part is said of the words of these records.
use mathlib.Core.Path.{◌≡◌, sym, ap, subst, ◌∙◌}
use mathlib.Core.List.Memᴰ
use mathlib.Core.List.{List, [], ◌∷◌, Memᴰ}
use mathlib.Core.Logic.{⊎_elim}
use Prim.Native.Nat.{ℕ, ◌+◌, ◌-◌, ◌≤◌, ◌<◌}
use native.Mathlib.Omega.{arith}
use lib.ListN.{length, get_or}
use Rattle.slicing.specs.Recorded.{Recorded}
use Rattle.arena.specs.Arena.{stride, word, level, adjust, level_at, forward_at, adjust_at, back_at}
use Rattle.arena.specs.Lazy.{held}
use Rattle.arena.specs.inside.Chain.{Has, All, Away, Same}
use Rattle.arena.specs.inside.Built.{Built}
use Rattle.arena.specs.inside.Backs.{Backed}
use Rattle.arena.proofs.Frames.{all_map, all_both, same_shape, next_frame, chain_frame}
use Rattle.arena.proofs.ListLaws.{held_length}
use Rattle.arena.proofs.HeldLaws.{held_carried}
use Rattle.arena.proofs.BackLaws.{backs_frame}
use Rattle.arena.proofs.CarriedLaws.{carried_same}
use Rattle.parts.specs.inside.Part.{Part}
use Rattle.parts.specs.inside.Copying.{Copied}

-- A record without what all records of a list have is none of them, and so is one outside their range.
pub away_from : (P : ℕ → Type 0) (x : ℕ) (rs : List ℕ) → (P x → ⊥) → All P rs → Away x rs
away_from P x rs out all = all_map rs (λ y p e. out (subst P e p)) all

pub away_out : (lo hi x : ℕ) (rs : List ℕ) → ((lo ≤ x) × (x < hi) → ⊥) → All (λ y. (lo ≤ y) × (y < hi)) rs → Away x rs
away_out lo hi = away_from (λ y. (lo ≤ y) × (y < hi))

-- What holds of each record of a list holds of the number of each item.
held_number : (P : ℕ → Type 0) (a : List ℕ) (h : ℕ) (before rs : List ℕ) → All P rs → (x : Recorded) → Memᴰ x (held a h before rs) → P x.number
unfolding held
held_number P a h before [] all x i = absurd (Memᴰ.not-nil i)
held_number P a h before (r ∷ rs) all x i =
    ⊎_elim (λ (e : x ≡ _). subst (λ (y : Recorded). P y.number) (sym e) all.0)
    (λ (j : Memᴰ x _). held_number P a h _ rs all.1 x j) (Memᴰ.cases_cons i)

pub part_level : (levels a : List ℕ) (h lo hi : ℕ) (l : List Recorded) → Part levels a h lo hi l → (x : Recorded) → Memᴰ x l → level a x.number ≡ get_or levels (x.number - 1) 0
part_level levels a h lo hi l p x i =
    held_number (λ r. level a r ≡ get_or levels (r - 1) 0) a h [] p.list p.level_is x
    (subst (λ (k : List Recorded). Memᴰ x k) (sym p.holds) i)

module _ (levels a b : List ℕ) (h lo hi : ℕ) (l : List Recorded) (p : Part levels a h lo hi l) where
  pub part_length : length p.list ≡ length l
  part_length = sym (held_length a h [] p.list) ∙ ap length p.holds

  -- The records of the list are as they were, and the head k has what h had.
  module _ (long : length b ≡ length a) (same : (x : ℕ) → lo ≤ x → x < hi → Same a b x) where
    list_same : All (Same a b) p.list
    list_same = all_map p.list (λ x i. same x i.0 i.1) p.inside

    levels_same : All (λ x. level b x ≡ get_or levels (x - 1) 0) p.list
    levels_same = all_both p.list (λ x (s : Same a b x) e. s.at level_at (omega arith) ∙ e) list_same p.level_is

    module _ (k : ℕ) (words : (j : ℕ) → j < stride → word b k j ≡ word a h j) where
      moved_sums : (i : ℕ) → i < 8 → adjust b k i ≡ adjust a h i
      moved_sums i few = words (adjust_at + i) (omega arith)

      moved_holds : held b k [] p.list ≡ l
      moved_holds =
          held_carried b k p.list ∙ carried_same a b (adjust a h) (adjust b k) p.list moved_sums list_same
          ∙ sym (held_carried a h p.list)
          ∙ p.holds

      moved_built : Has a k → Away k p.list → Built b k p.list
      moved_built has away =
          let linked = p.built.linked in
          let top = linked.top in
          let level_same = words level_at (omega arith) in
          record {
            linked =
                record {
                  has = omega arith;
                  top = level_same ∙ top;
                  links =
                      record {
                        at = λ i less.
                            words (forward_at + i) (omega arith) ∙ linked.links.at i (omega arith)
                            ∙ sym (next_frame a b i p.list (all_map p.list (λ x s. s.at level_at (omega arith)) list_same));
                      };
                  away = away;
                  chain = chain_frame a b p.list long (all_map p.list (λ x s. same_shape a b x s) list_same) linked.chain;
                };
            still = λ i few. moved_sums i few ∙ p.built.still i few;
          }

      moved_backed : Backed b k p.list
      moved_backed =
          record {
            backs = backs_frame a b 0 p.list (all_map p.list (λ x (s : Same a b x). s.at back_at (omega arith)) list_same) p.backed.backs;
            head = words back_at (omega arith) ∙ p.backed.head;
          }

      pub part_moved : Has a k → ((lo ≤ k) × (k < hi) → ⊥) → Part levels b k lo hi l
      part_moved has out =
          record {
            list = p.list;
            built = moved_built has (away_out lo hi k p.list out p.inside);
            backed = moved_backed;
            holds = moved_holds;
            inside = p.inside;
            level_is = levels_same;
          }

    pub part_frame : Same a b h → ((lo ≤ h) × (h < hi) → ⊥) → Part levels b h lo hi l
    part_frame here out = part_moved h here.at p.built.linked.has out

-- The head was copied.
pub part_copied : (levels a b : List ℕ) (h k lo hi : ℕ) (l : List Recorded) → Part levels a h lo hi l → Has a k → ((lo ≤ k) × (k < hi) → ⊥) → Copied a h k b → Part levels b k lo hi l
part_copied levels a b h k lo hi l p has out c =
    part_moved levels a b h lo hi l p c.length_kept
    (λ x u v. c.outside x (λ e. out (subst (λ (z : ℕ). (lo ≤ z) × (z < hi)) e (u, v)))) k c.words has out
