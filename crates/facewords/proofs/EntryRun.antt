-- The run of the entries of taken words: where it begins, and what the iterator over them gives.
-- The words are those of some face, so that the first of them is a kind, and a gauge has its count and its sizes.
use mathlib.Core.Path.{◌≡◌, refl, sym, ap, subst, ◌∙◌}
use mathlib.Core.Logic.{∥∥₁_elim, ∥∥₁_map}
use mathlib.Core.List.{List, [], ◌∷◌}
use native.Mathlib.Bridge.{le_prop}
use native.Mathlib.Omega.{arith}
use Prim.Native.Nat.{ℕ, ◌+◌, ◌-◌, ◌*◌, ◌<◌, ◌≤◌}
use lib.ListN.{length, take, drop, get_or, drop_of_length-le}
use lib.Seq.{drop-drop}
use Rattle.std.proofs.lemmas.List.{length-drop}
use Rattle.std.specs.Prelude.{Option, Some, None}
use Rattle.std.specs.Borrow.{Bor}
use Rattle.checks.specs.Answer.{taken, next}
use Rattle.checks.proofs.Answers.{next_taken}
use Rattle.slicing.specs.Tree.{Tree, gauge}
use Rattle.sizes.proofs.GoodSizes.{sizes_taken}
use Rattle.entries.specs.Entry.{entries}
use Rattle.entries.specs.inside.Kinds.{byte_of, kind_numbered}
use Rattle.entries.specs.declared.kinds.Kind.{Kind}
use Rattle.entries.specs.declared.kinds.Kind.TheVariants.{Gauge as a_gauge, Beside, Stacked}
use Rattle.entries.proofs.KindLaws.{number_is}
use Rattle.entries.proofs.Took.{state}
use Rattle.facefile.specs.Format.{at_end}
use Rattle.facefile.specs.inside.Entries.{JoinNext}
use Rattle.facefile.proofs.EntryWalk.{GaugeRead, taken_here, some_left, run_behind, run_kind, run_join, run_stacked, run_beside, run_count, run_gauge}
use Rattle.facefile.proofs.EntrySteps.{left_at, count_at, some_at, gauge_one}
use Rattle.facewords.specs.Words.{word_rules, first_word, words_start, words_face}
use Rattle.facewords.specs.inside.Entries.{WordRun, Stands, GaugeNext}
use Rattle.facewords.specs.inside.Entries.Gives.{rest_of, Next, Gives}
use Rattle.facewords.specs.declared.entry.Entry.{Entry}
use Rattle.facewords.specs.declared.entry.Entry.TheVariants.{Gauge, Join}
use Rattle.facewords.specs.declared.entry.Entries.{Entries}
use Rattle.facewords.proofs.WordCoding.{words_decode}

pub run_start : (words : List ℕ) (t : Tree) → words_face words ≡ taken t → WordRun words t (drop 1 words) []
unfolding words_face entries
run_start words t e =
    let first = next_taken (first_word words) (λ count. next (entries word_rules count (words_start words)) at_end) t e in
    record { means = e; gauges = 0; done = 0; read = refl; left = first.0; gives = first.2 }

pub stands_start : (words : List ℕ) → (t : Tree) × (words_face words ≡ taken t) → Stands (drop 1 words)
stands_start words t = (words, t.0, [], run_start words t.0 t.1)

-- The gauge that comes, with the words of its sizes.
module _ (words : List ℕ) (face : Tree) (stack : List Tree) (rest : List ℕ) (w : WordRun words face rest stack) (first : ℕ) (bytes : List ℕ) (e : rest ≡ first ∷ bytes) (is : kind_numbered first ≡ taken a_gauge) (count : ℕ) (l : List ℕ) (c : bytes ≡ count ∷ l) where
  read : GaugeRead word_rules count l (state rest stack w.gauges) (taken_here (words_face words) word_rules (words_start words) face rest stack w (some_left (words_face words) word_rules (words_start words) face rest stack w first bytes e)).after
  read = run_gauge (words_face words) word_rules (words_start words) face rest stack w first bytes e is count l c

  pub gauge_present : 2 * count ≤ length l
  gauge_present = read.present

  pub gauge_next : GaugeNext words face stack (take (2 * count) l) (drop (2 * count) l)
  gauge_next =
      let r = read in
      record {
        items = r.sizes;
        good = (sizes_taken word_rules count l r.sizes r.some r.few r.sized).good;
        same = words_decode.coded count l r.sizes tt r.present r.sized;
        walk =
            run_behind (words_face words) word_rules (words_start words) face rest stack w
            (some_left (words_face words) word_rules (words_start words) face rest stack w first bytes e)
            (drop (2 * count) l) (gauge r.sizes ∷ stack) (w.gauges + 1) r.after;
      }

-- The words that are left, of whatever face.
module _ (l : List ℕ) (at : ℕ) (stands : ∥ Stands (drop at l) ∥₁) (some : at < length l) where
  pub stands_join : (get_or l at 0 ≡ 0x01 → ⊥) → ∥ Stands (drop (at + 1) l) ∥₁
  stands_join other =
      ∥∥₁_map stands (λ (s : Stands (drop at l)).
      let k = run_kind (words_face s.0) word_rules (words_start s.0) s.1 (drop at l) s.2 s.3 (get_or l at 0) (drop (at + 1) l) (left_at l at some) in
      let j =
      run_join (words_face s.0) word_rules (words_start s.0) s.1 (drop at l) s.2 s.3 (get_or l at 0) (drop (at + 1) l) (left_at l at some)
      k.0 k.1 (λ (g : k.0 ≡ a_gauge). other (number_is _ k.0 k.1 ∙ ap byte_of g)) in
      (s.0, s.1, _, j.walk))

  module _ (one : get_or l at 0 ≡ 0x01) where
    pub count_present : at + 1 < length l
    count_present =
        ∥∥₁_elim stands le_prop (λ (s : Stands (drop at l)).
        some_at l (at + 1)
        (run_count (words_face s.0) word_rules (words_start s.0) s.1 (drop at l) s.2 s.3 (get_or l at 0) (drop (at + 1) l) (left_at l at some) (gauge_one _ one)))

    module _ (count : ℕ) (e : count ≡ get_or l (at + 1) 0) where
      pub sizes_present : at + 2 + 2 * count ≤ length l
      sizes_present =
          ∥∥₁_elim stands le_prop (λ (s : Stands (drop at l)).
          let here = count_present in
          let present = gauge_present s.0 s.1 s.2 (drop at l) s.3 (get_or l at 0) (drop (at + 1) l) (left_at l at some) (gauge_one _ one) count (drop (at + 2) l) (count_at l at count e count_present) in
          let long = length-drop (at + 2) l in
          omega arith)

      pub stands_gauge : ∥ Stands (drop (at + 2 + 2 * count) l) ∥₁
      stands_gauge =
          ∥∥₁_map stands (λ (s : Stands (drop at l)).
          let next = gauge_next s.0 s.1 s.2 (drop at l) s.3 (get_or l at 0) (drop (at + 1) l) (left_at l at some) (gauge_one _ one) count (drop (at + 2) l) (count_at l at count e count_present) in
          (s.0, s.1, _, subst (λ (x : List ℕ). WordRun s.0 s.1 x (gauge next.items ∷ s.2)) (drop-drop (2 * count) (at + 2) l) next.walk))

-- Nothing comes only where nothing is left.
module _ (s t : Entries) where
  pub none_left : (r : Option Entry) → r ≡ None → length s.words.now ≤ s.at → Gives s r t
  unfolding Gives
  none_left r e none words face stack w = rw e (drop_of_length-le s.words.now none)

  -- The entry that comes, of which the first word is there.
  module _ (some : s.at < length s.words.now) where
    pub gives_stacked : get_or s.words.now s.at 0 ≡ 0x03 → rest_of t ≡ drop (s.at + 1) s.words.now → Gives s (Some (Join Stacked)) t
    unfolding Gives
    gives_stacked three left words face stack w =
        rw left (run_stacked (words_face words) word_rules (words_start words) face (rest_of s) stack w _ _ (left_at s.words.now s.at some) three)

    pub gives_beside : (get_or s.words.now s.at 0 ≡ 0x01 → ⊥) → (get_or s.words.now s.at 0 ≡ 0x03 → ⊥) → rest_of t ≡ drop (s.at + 1) s.words.now → Gives s (Some (Join Beside)) t
    unfolding Gives
    gives_beside other not_three left words face stack w =
        rw left (run_beside (words_face words) word_rules (words_start words) face (rest_of s) stack w _ _ (left_at s.words.now s.at some) other not_three)

    pub gives_gauge : get_or s.words.now s.at 0 ≡ 0x01 → (count : ℕ) → count ≡ get_or s.words.now (s.at + 1) 0 → (sizes : Bor (List ℕ)) → sizes.now ≡ take (s.at + 2 + 2 * count - (s.at + 2)) (drop (s.at + 2) s.words.now) → rest_of t ≡ drop (s.at + 2 + 2 * count) s.words.now → Gives s (Some (Gauge sizes)) t
    unfolding Gives
    gives_gauge one count e sizes own left words face stack w =
        let present = count_present s.words.now s.at ∣ (words, face, stack, w) ∣₁ some one in
        let long : s.at + 2 + 2 * count - (s.at + 2) ≡ 2 * count = omega arith in
        rw (left ∙ sym (drop-drop (2 * count) (s.at + 2) s.words.now), own, long)
        (gauge_next words face stack (rest_of s) w _ _ (left_at s.words.now s.at some) (gauge_one _ one) count _ (count_at s.words.now s.at count e present))

-- What a caller learns of what the iterator gave, where the run stands.
module _ (words : List ℕ) (face : Tree) (stack : List Tree) (s t : Entries) (w : WordRun words face (rest_of s) stack) where
  pub came_none : (r : Option Entry) → r ≡ None → Gives s r t → (rest_of s) ≡ []
  unfolding Gives
  came_none r e g = subst (λ (x : Option Entry). Next words face stack (rest_of s) x (rest_of t)) e (g words face stack w)

  module _ (r : Entry) (g : Gives s (Some r) t) where
    came : Next words face stack (rest_of s) (Some r) (rest_of t)
    unfolding Gives
    came = g words face stack w

    pub came_gauge : (sizes : Bor (List ℕ)) → r ≡ Gauge sizes → GaugeNext words face stack sizes.now (rest_of t)
    came_gauge sizes e = subst (λ (x : Entry). Next words face stack (rest_of s) (Some x) (rest_of t)) e came

    pub came_join : (kind : Kind) → r ≡ Join kind → JoinNext (WordRun words face) stack (rest_of s) kind (rest_of t)
    came_join kind e = subst (λ (x : Entry). Next words face stack (rest_of s) (Some x) (rest_of t)) e came
