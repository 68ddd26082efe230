-- The law of a call on a face, whatever the answer of the file and whatever it asks: it is refused by the file, refused by what it asks beside it, or taken.
-- What the reader counts is counted in the face, and the first check that was answered "no" is the call's.
use mathlib.Core.Path.{◌≡◌, refl, sym, ap, subst, ◌∙◌}
use mathlib.Core.List.{List}
use Prim.Native.Nat.{ℕ, ◌≤◌}
use Rattle.checks.specs.declared.Check.{Check}
use Rattle.checks.specs.Limits.{most_gauges, most_sizes}
use Rattle.checks.specs.Answer.{Answer, refused, taken, Asked, also}
use Rattle.checks.proofs.Answers.{not_both, same_taken, next_taken, also_taken, RefusedBy, next_refused, also_refused}
use Rattle.slicing.specs.Tree.{Tree, gauge_count, size_count}
use Rattle.facefile.specs.declared.Counts.{Counts as Counted}
use Rattle.facefile.specs.Format.{face_of}
use Rattle.facefile.specs.Summary.{counted}
use Rattle.facefile.proofs.Taken.{face_taken}
use Rattle.lent.specs.Call.{call_on}

module _ (face : Answer Tree) (asks : Tree → Asked) where
  -- A call is taken of the face that the file means, and then all that it asks was answered "yes".
  pub call_taken : (t : Tree) → call_on face asks ≡ taken t → (face ≡ taken t) × (asks t ≡ taken tt)
  call_taken t e =
      let from = next_taken face (λ u. also (asks u) (taken u)) t e in
      let asked = also_taken (asks from.0) (taken from.0) t from.2 in
      let same = same_taken from.0 t asked.1 in
      (from.1 ∙ ap taken same, ap asks (sym same) ∙ asked.0)

  -- It is refused only by a check of the file, or by one that it asks.
  pub call_refused : (P : Check → Type 0) → RefusedBy P face → ((t : Tree) → RefusedBy P (asks t)) → RefusedBy P (call_on face asks)
  call_refused P by_face by_asks =
      next_refused P face (λ t. also (asks t) (taken t)) by_face (λ t. also_refused P (asks t) (taken t) (by_asks t) tt)

  -- What a call leaves by the answer of its checks: where a refusal by any check leaves it, the refusal of this call does.
  pub refusal_kept : (Left : Answer Tree → Type 0) → ((c : Check) → Left (refused c)) → (c : Check) → call_on face asks ≡ refused c → Left (call_on face asks)
  refusal_kept Left kept c bad = subst Left (sym bad) (kept c)

-- What is counted in a face.
abbrev pub counts_of : Tree → Counted
counts_of t = record { gauges = gauge_count t; sizes = size_count t }

-- The face of which n is what was counted.
pub record CountedFace (n : Counted) (a : Answer Tree) : Type 0 where
  pub tree : Tree
  pub face : a ≡ taken tree
  pub counts : n ≡ counts_of tree

pub face_counted : (n : Counted) (a : Answer Tree) → taken n ≡ counted a → CountedFace n a
unfolding counted
face_counted n (refused c) e = absurd (not_both c n (sym e))
face_counted n (taken t) e = record { tree = t; face = refl; counts = same_taken n (counts_of t) e }

pub face_refused : (c : Check) (a : Answer Tree) → ◌≡◌ {A = Answer Counted} (refused c) (counted a) → a ≡ refused c
unfolding counted
face_refused c (refused d) e = let same : c ≡ d = cc in ap refused (sym same)
face_refused c (taken t) e = absurd (not_both c (counts_of t) e)

-- A call that answers with the first check that was answered "no".
module _ (face : Answer Tree) (asks : Tree → Asked) where
  pub refused_by_file : (c : Check) → ◌≡◌ {A = Answer Counted} (refused c) (counted face) → call_on face asks ≡ refused c
  refused_by_file c e = ap (λ (a : Answer Tree). call_on a asks) (face_refused c face e)

  module _ (t : Tree) (is : face ≡ taken t) where
    tree_asks : call_on face asks ≡ also (asks t) (taken t)
    tree_asks = ap (λ (a : Answer Tree). call_on a asks) is

    pub refused_by_asked : (c : Check) → refused c ≡ asks t → call_on face asks ≡ refused c
    refused_by_asked c e = tree_asks ∙ ap (λ (q : Asked). also q (taken t)) (sym e)

    pub taken_by_all : taken tt ≡ asks t → call_on face asks ≡ taken t
    taken_by_all e = tree_asks ∙ ap (λ (q : Asked). also q (taken t)) (sym e)

-- The same where what it asks hangs on the counts alone.
module _ (face : Answer Tree) (asked : Counted → Asked) where
  abbrev counted_asks : Tree → Asked
  counted_asks t = asked (counts_of t)

  pub call_no_file : (c : Check) → ◌≡◌ {A = Answer Counted} (refused c) (counted face) → call_on face counted_asks ≡ refused c
  call_no_file c e = refused_by_file face counted_asks c e

  module _ (n : Counted) (read : taken n ≡ counted face) where
    pub called : CountedFace n face
    called = face_counted n face read

    pub call_no_asked : (c : Check) → refused c ≡ asked n → call_on face counted_asks ≡ refused c
    call_no_asked c e = refused_by_asked face counted_asks called.tree called.face c (e ∙ ap asked called.counts)

    pub call_goes : taken tt ≡ asked n → call_on face counted_asks ≡ taken called.tree
    call_goes e = taken_by_all face counted_asks called.tree called.face (e ∙ ap asked called.counts)

-- What is counted in a taken file is few.
pub record Few (g n : ℕ) : Type 0 where
  pub gauges : g ≤ most_gauges
  pub sizes : n ≤ most_sizes
  pub one_each : g ≤ n

pub file_few : (file : List ℕ) (t : Tree) → face_of file ≡ taken t → Few (gauge_count t) (size_count t)
file_few file t face =
    let known = face_taken file t face in
    record { gauges = known.few; sizes = known.most; one_each = known.least }

pub counts_few : (file : List ℕ) (n : Counted) → taken n ≡ counted (face_of file) → Few n.gauges n.sizes
counts_few file n read =
    let known = face_counted n (face_of file) read in
    subst (λ (m : Counted). Few m.gauges m.sizes) (sym known.counts) (file_few file known.tree known.face)
