-- What a caller of the reader knows: with the number 0 the file means a tree, whose gauges and sizes the answer counts; with any other it is refused by the check of that number.
-- The answer is the definition's, and no check has the number 0.
use mathlib.Core.Path.{◌≡◌, refl, sym, ap, ◌∙◌}
use mathlib.Core.Bool.{true, false}
use mathlib.Core.List.{List, []}
use Prim.Native.Nat.{ℕ, zero, suc, ◌<◌}
use native.Mathlib.Omega.{arith}
use Rattle.std.specs.Result.{is_err}
use Rattle.checks.specs.Check.{number_of}
use Rattle.checks.specs.declared.Check.{Check}
use Rattle.checks.specs.Answer.{Answer, refused, taken}
use Rattle.checks.proofs.Answers.{number_positive}
use Rattle.slicing.specs.Tree.{Tree, gauge_count, size_count}
use Rattle.facefile.specs.declared.Face.{Face}
use Rattle.facefile.specs.declared.Counts.{Counts as Counted}
use Rattle.facefile.specs.Format.{face_of}
use Rattle.facefile.specs.Gauge.{gauge_bytes}
use Rattle.facefile.specs.Summary.{refused_face, summary, counted}

-- The tree of a taken file, and its counts.
pub record Counts (f : Face) (a : Answer Tree) : Type 0 where
  pub tree : Tree
  pub face : a ≡ taken tree
  pub gauges : f.gauges ≡ gauge_count tree
  pub sizes : f.sizes ≡ size_count tree

pub answer_taken : (f : Face) (a : Answer Tree) → f ≡ summary a → f.number ≡ 0 → Counts f a
unfolding summary
answer_taken f (refused c) e z =
    let n = ap (λ (x : Face). x.number) e in
    let p = number_positive c in
    absurd (omega arith)
answer_taken f (taken t) e z =
    record {
      tree = t;
      face = refl;
      gauges = ap (λ (x : Face). x.gauges) e;
      sizes = ap (λ (x : Face). x.sizes) e;
    }

pub answer_refused : (f : Face) (a : Answer Tree) → f ≡ summary a → (f.number ≡ 0 → ⊥) → (c : Check) × (a ≡ refused c) × (f.number ≡ number_of c)
unfolding summary
answer_refused f (refused c) e h = (c, refl, ap (λ (x : Face). x.number) e)
answer_refused f (taken t) e h = absurd (h (ap (λ (x : Face). x.number) e))

-- For the gauge-bytes call.
pub face_tree : (a : Answer Counted) (file : List ℕ) → a ≡ counted (face_of file) → is_err a ≡ false → (t : Tree) × (face_of file ≡ taken t)
unfolding counted
face_tree a file e ok = by (face_of file) (ap is_err (sym e) ∙ ok)
  where
    by : (f : Answer Tree) → is_err (counted f) ≡ false → (t : Tree) × (f ≡ taken t)
    by (refused c) h = cc
    by (taken t) h = (t, refl)

pub no_face : (a : Answer Counted) (file : List ℕ) (gauge : ℕ) → a ≡ counted (face_of file) → is_err a ≡ true → [] ≡ gauge_bytes (face_of file) gauge
unfolding counted gauge_bytes
no_face a file gauge e bad = by (face_of file) (ap is_err (sym e) ∙ bad)
  where
    by : (f : Answer Tree) → is_err (counted f) ≡ true → [] ≡ gauge_bytes f gauge
    by (refused c) h = refl
    by (taken t) h = cc

pub no_gauge : (file : List ℕ) (gauge : ℕ) → gauge < 1 → gauge_bytes (face_of file) gauge ≡ []
unfolding gauge_bytes
no_gauge file zero h = by (face_of file)
  where
    by : (a : Answer Tree) → gauge_bytes a 0 ≡ []
    by (refused c) = refl
    by (taken t) = refl
no_gauge file (suc k) h = absurd (omega arith)

-- The answer with the number of a check is that of a file which the check refuses.
pub summary_refused : (f : Face) (n : ℕ) (c : Check) → f ≡ refused_face n → n ≡ number_of c → f ≡ summary (refused c)
unfolding summary
summary_refused f n c e h = e ∙ ap refused_face h
