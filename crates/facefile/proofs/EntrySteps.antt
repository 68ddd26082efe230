-- What the iterator over the entries of a taken file gives is what comes in the run of the file's entries, and the bytes that are left are again what is left in one.
-- The bytes are those of some taken file, so that the first of them is a kind, and a gauge has its count and its sizes.
use mathlib.Core.Path.{◌≡◌, refl, sym, ap, ap₂, subst, ◌∙◌}
use mathlib.Core.Logic.{∥∥₁_elim, ∥∥₁_map}
use mathlib.Core.List.{List, [], ◌∷◌}
use native.Mathlib.Bridge.{le_prop}
use Prim.Native.Nat.{ℕ, ◌+◌, ◌-◌, ◌*◌, ◌<◌, ◌≤◌}
use native.Mathlib.Omega.{arith}
use lib.ListN.{length, take, drop, get_or, drop_of_length-le}
use lib.Seq.{drop-drop}
use Rattle.std.proofs.lemmas.List.{drop_more, length-drop}
use Rattle.std.specs.Prelude.{Option, Some, None}
use Rattle.std.specs.Borrow.{Bor}
use Rattle.checks.specs.Answer.{taken}
use Rattle.slicing.specs.Tree.{Tree}
use Rattle.entries.specs.inside.Kinds.{byte_of, kind_numbered}
use Rattle.entries.specs.declared.kinds.Kind.{Kind}
use Rattle.entries.specs.declared.kinds.Kind.TheVariants.{Gauge as a_gauge, Beside, Stacked}
use Rattle.entries.proofs.KindLaws.{number_is}
use Rattle.facefile.specs.Format.{rules_of, start, face_of}
use Rattle.facefile.specs.inside.Entries.{Walk, Stands, gauge_of, GaugeNext, JoinNext}
use Rattle.facefile.specs.inside.Entries.Gives.{rest_of, Next, Gives}
use Rattle.facefile.specs.declared.entry.Entry.{Entry}
use Rattle.facefile.specs.declared.entry.Entry.TheVariants.{Gauge, Join}
use Rattle.facefile.specs.declared.entry.Entries.{Entries}
use Rattle.facefile.proofs.EntryWalk.{run_kind, run_join, run_stacked, run_beside, run_count, gauge_present, gauge_next}

-- What is left at a place before the end, and what is left behind a gauge's kind.
pub left_at : (l : List ℕ) (at : ℕ) → at < length l → drop at l ≡ get_or l at 0 ∷ drop (at + 1) l
left_at l at some = drop_more l at 0 some

pub count_at : (l : List ℕ) (at count : ℕ) → count ≡ get_or l (at + 1) 0 → at + 1 < length l → drop (at + 1) l ≡ count ∷ drop (at + 2) l
count_at l at count e some =
    let two : at + 1 + 1 ≡ at + 2 = omega arith in
    drop_more l (at + 1) 0 some ∙ ap₂ (λ (n k : ℕ). n ∷ drop k l) (sym e) two

pub some_at : (l : List ℕ) (at : ℕ) → (drop at l ≡ [] → ⊥) → at < length l
some_at l at some = by (drop at l) refl some
  where
    by : (x : List ℕ) → drop at l ≡ x → (x ≡ [] → ⊥) → at < length l
    by [] e some = absurd (some refl)
    by (y ∷ x) e some = let long = sym (length-drop at l) ∙ ap length e in omega arith

-- A gauge's kind.
pub gauge_one : (first : ℕ) → first ≡ 0x01 → kind_numbered first ≡ taken a_gauge
gauge_one first e = rw e refl

-- The bytes that are left, of whatever file.
module _ (l : List ℕ) (at : ℕ) (stands : ∥ Stands (drop at l) ∥₁) (some : at < length l) where
  pub stands_join : (get_or l at 0 ≡ 0x01 → ⊥) → ∥ Stands (drop (at + 1) l) ∥₁
  stands_join other =
      ∥∥₁_map stands (λ (s : Stands (drop at l)).
      let k = run_kind (face_of s.0) (rules_of s.0) (start s.0) s.1 (drop at l) s.2 s.3 (get_or l at 0) (drop (at + 1) l) (left_at l at some) in
      let j =
      run_join (face_of s.0) (rules_of s.0) (start s.0) s.1 (drop at l) s.2 s.3 (get_or l at 0) (drop (at + 1) l) (left_at l at some)
      k.0 k.1 (λ (g : k.0 ≡ a_gauge). other (number_is _ k.0 k.1 ∙ ap byte_of g)) in
      (s.0, s.1, _, j.walk))

  module _ (one : get_or l at 0 ≡ 0x01) where
    pub count_present : at + 1 < length l
    count_present =
        ∥∥₁_elim stands le_prop (λ (s : Stands (drop at l)).
        some_at l (at + 1)
        (run_count (face_of s.0) (rules_of s.0) (start s.0) s.1 (drop at l) s.2 s.3 (get_or l at 0) (drop (at + 1) l) (left_at l at some) (gauge_one _ one)))

    module _ (count : ℕ) (e : count ≡ get_or l (at + 1) 0) where
      pub sizes_present : at + 2 + 4 * count ≤ length l
      sizes_present =
          ∥∥₁_elim stands le_prop (λ (s : Stands (drop at l)).
          let here = count_present in
          let present = gauge_present s.0 s.1 s.2 (drop at l) s.3 (get_or l at 0) (drop (at + 1) l) (left_at l at some) (gauge_one _ one) count (drop (at + 2) l) (count_at l at count e count_present) in
          let long = length-drop (at + 2) l in
          omega arith)

      pub stands_gauge : ∥ Stands (drop (at + 2 + 4 * count) l) ∥₁
      stands_gauge =
          ∥∥₁_map stands (λ (s : Stands (drop at l)).
          let next = gauge_next s.0 s.1 s.2 (drop at l) s.3 (get_or l at 0) (drop (at + 1) l) (left_at l at some) (gauge_one _ one) count (drop (at + 2) l) (count_at l at count e count_present) in
          (s.0, s.1, _, subst (λ (x : List ℕ). Walk s.0 s.1 x (gauge_of (take (4 * count) (drop (at + 2) l)) ∷ s.2)) (drop-drop (4 * count) (at + 2) l) next.walk))

-- Nothing comes only where nothing is left.
module _ (s t : Entries) where
  pub none_left : (r : Option Entry) → r ≡ None → length s.file.now ≤ s.at → Gives s r t
  unfolding Gives
  none_left r e none file face stack w = rw e (drop_of_length-le s.file.now none)

  -- The entry that comes, of which the first byte is there.
  module _ (some : s.at < length s.file.now) where
    pub gives_stacked : get_or s.file.now s.at 0 ≡ 0x03 → rest_of t ≡ drop (s.at + 1) s.file.now → Gives s (Some (Join Stacked)) t
    unfolding Gives
    gives_stacked three left file face stack w =
        rw left (run_stacked (face_of file) (rules_of file) (start file) face (rest_of s) stack w _ _ (left_at s.file.now s.at some) three)

    pub gives_beside : (get_or s.file.now s.at 0 ≡ 0x01 → ⊥) → (get_or s.file.now s.at 0 ≡ 0x03 → ⊥) → rest_of t ≡ drop (s.at + 1) s.file.now → Gives s (Some (Join Beside)) t
    unfolding Gives
    gives_beside other not_three left file face stack w =
        rw left (run_beside (face_of file) (rules_of file) (start file) face (rest_of s) stack w _ _ (left_at s.file.now s.at some) other not_three)

    pub gives_gauge : get_or s.file.now s.at 0 ≡ 0x01 → (count : ℕ) → count ≡ get_or s.file.now (s.at + 1) 0 → (sizes : Bor (List ℕ)) → sizes.now ≡ take (s.at + 2 + 4 * count - (s.at + 2)) (drop (s.at + 2) s.file.now) → rest_of t ≡ drop (s.at + 2 + 4 * count) s.file.now → Gives s (Some (Gauge sizes)) t
    unfolding Gives
    gives_gauge one count e sizes own left file face stack w =
        let present = count_present s.file.now s.at ∣ (file, face, stack, w) ∣₁ some one in
        let long : s.at + 2 + 4 * count - (s.at + 2) ≡ 4 * count = omega arith in
        rw (left ∙ sym (drop-drop (4 * count) (s.at + 2) s.file.now), own, long)
        (gauge_next file face stack (rest_of s) w _ _ (left_at s.file.now s.at some) (gauge_one _ one) count _ (count_at s.file.now s.at count e present))

-- What a caller learns of what the iterator gave, where the run stands.
module _ (file : List ℕ) (face : Tree) (stack : List Tree) (s t : Entries) (w : Walk file face (rest_of s) stack) where
  pub came_none : (r : Option Entry) → r ≡ None → Gives s r t → (rest_of s) ≡ []
  unfolding Gives
  came_none r e g = subst (λ (x : Option Entry). Next file face stack (rest_of s) x (rest_of t)) e (g file face stack w)

  module _ (r : Entry) (g : Gives s (Some r) t) where
    came : Next file face stack (rest_of s) (Some r) (rest_of t)
    unfolding Gives
    came = g file face stack w

    pub came_gauge : (sizes : Bor (List ℕ)) → r ≡ Gauge sizes → GaugeNext file face stack (rest_of s) sizes.now (rest_of t)
    came_gauge sizes e = subst (λ (x : Entry). Next file face stack (rest_of s) (Some x) (rest_of t)) e came

    pub came_join : (kind : Kind) → r ≡ Join kind → JoinNext (Walk file face) stack (rest_of s) kind (rest_of t)
    came_join kind e = subst (λ (x : Entry). Next file face stack (rest_of s) (Some x) (rest_of t)) e came
