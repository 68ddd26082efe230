-- A part of a face is a contiguous stretch of the face's gauges, and of its sizes, in file order.
-- Going down the tree, each step leaves the other part's gauges before or after.
use mathlib.Core.Path.{◌≡◌, refl, ap, ◌∙◌, sym}
use mathlib.Core.List.{List, [], ◌++◌, append-nil, append_assoc}
use Rattle.slicing.specs.Tree.{Tree, beside, stacked, gauges_of, sizes_of}

-- p is t, or a part of one of its parts.
pub data Part (p : Tree) : Tree → Type 0 where
  whole : Part p p
  first_beside : {a b : Tree} → Part p a → Part p (beside a b)
  second_beside : {a b : Tree} → Part p b → Part p (beside a b)
  first_stacked : {a b : Tree} → Part p a → Part p (stacked a b)
  second_stacked : {a b : Tree} → Part p b → Part p (stacked a b)

-- The list has the stretch in it, after `before`.
pub record Stretch {A : Type 0} (stretch list : List A) : Type 0 where
  pub before : List A
  pub after : List A
  pub same : list ≡ before ++ (stretch ++ after)

module _ {A : Type 0} where
  all : (l : List A) → Stretch l l
  all l = record { before = []; after = []; same = sym (append-nil l) }

  in_first : (l a b : List A) → Stretch l a → Stretch l (a ++ b)
  in_first l a b s =
      record {
        before = s.before;
        after = s.after ++ b;
        same = ap (λ (x : List A). x ++ b) s.same ∙ simp append_assoc;
      }

  in_second : (l a b : List A) → Stretch l b → Stretch l (a ++ b)
  in_second l a b s =
      record {
        before = a ++ s.before;
        after = s.after;
        same = ap (λ (x : List A). a ++ x) s.same ∙ simp append_assoc;
      }

-- What holds of any list that a join makes of its parts' lists, one after the other.
module _ {A : Type 0} (f : Tree → List A) (at_beside : (a b : Tree) → f (beside a b) ≡ f a ++ f b) (at_stacked : (a b : Tree) → f (stacked a b) ≡ f a ++ f b) where
  stretch : (p t : Tree) → Part p t → Stretch (f p) (f t)
  stretch p t whole = all (f p)
  stretch p (beside a b) (first_beside h) = rw at_beside (in_first (f p) (f a) (f b) (stretch p a h))
  stretch p (beside a b) (second_beside h) = rw at_beside (in_second (f p) (f a) (f b) (stretch p b h))
  stretch p (stacked a b) (first_stacked h) = rw at_stacked (in_first (f p) (f a) (f b) (stretch p a h))
  stretch p (stacked a b) (second_stacked h) = rw at_stacked (in_second (f p) (f a) (f b) (stretch p b h))

pub gauges_stretch : (p t : Tree) → Part p t → Stretch (gauges_of p) (gauges_of t)
gauges_stretch = stretch gauges_of (λ a b. refl) (λ a b. refl)

pub sizes_stretch : (p t : Tree) → Part p t → Stretch (sizes_of p) (sizes_of t)
sizes_stretch = stretch sizes_of (λ a b. refl) (λ a b. refl)
