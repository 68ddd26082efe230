-- What the search for a gauge keeps: the gauges passed, the sought one and those still to come before it are together its number.
-- Each gauge of the tree stands after those that the run has passed, and an entry only adds to these at the end.
use mathlib.Core.Path.{◌≡◌, refl, sym, ap, subst, ◌∙◌}
use mathlib.Core.List.{List, [], ◌∷◌, ◌++◌, append_assoc}
use Prim.Native.Nat.{ℕ, zero, suc, ◌+◌, ◌-◌, ◌<◌}
use native.Mathlib.Omega.{arith}
use lib.ListN.{length, drop, length-append}
use Rattle.std.specs.Prelude.{Option, Some, None}
use Rattle.std.specs.Borrow.{Bor}
use Rattle.checks.specs.Answer.{Answer, taken}
use Rattle.slicing.specs.Item.{Item}
use Rattle.slicing.specs.Tree.{Tree, gauges_of}
use Rattle.sizes.specs.inside.Sizes.{sizes_in}
use Rattle.entries.specs.inside.Kinds.{byte_of}
use Rattle.entries.specs.inside.Tracking.{flat}
use Rattle.entries.specs.declared.kinds.Kind.{Kind}
use Rattle.entries.proofs.Stacks.{join_flat, gauges_join}
use Rattle.facefile.specs.declared.entry.Entry.{Entry}
use Rattle.facefile.specs.declared.entry.Entry.TheVariants.{Gauge, Join}
use Rattle.facefile.specs.declared.entry.Entries.{Entries}
use Rattle.facefile.specs.Format.{Bytes, face_of}
use Rattle.facefile.specs.Gauge.{size_bytes, gauge_numbered, gauge_bytes}
use Rattle.facefile.specs.inside.Entries.{Walk, count_of, gauge_of, GaugeNext}
use Rattle.facefile.specs.inside.Entries.Gives.{rest_of, Gives}
use Rattle.facefile.proofs.SizeBytes.{bytes_drop, bytes_take, whole_bytes}
use Rattle.facefile.proofs.EntryWalk.{walk_start}
use Rattle.facefile.proofs.EntrySteps.{came_none, came_gauge, came_join}
use Rattle.facefile.proofs.EntryStack.{walk_flat, walk_end}

pub record Seeking (file : List ℕ) (sought : ℕ) (rest : List ℕ) (left : ℕ) : Type 0 where
  pub face : Tree
  pub stack : List Tree
  pub bytes : Bytes rest
  pub walk : Walk file face rest stack
  pub count : left + 1 + length (flat gauges_of stack) ≡ sought

pub seek_start : (file : List ℕ) (sought : ℕ) (of it : Entries) (left : ℕ) → Bytes file → (t : Tree) × (face_of file ≡ taken t) → rest_of of ≡ drop 7 file → it ≡ of → left + 1 ≡ sought → Seeking file sought (rest_of it) left
seek_start file sought of it left b t r same e =
    record {
      face = t.0;
      stack = [];
      bytes = rw (same, r) (bytes_drop 7 file b);
      walk = rw (same, r) (walk_start file t.0 t.1);
      count = omega arith;
    }

-- The gauge after those of xs.
numbered_at : (xs : List (List Item)) (z : List Item) (ys : List (List Item)) → gauge_numbered (xs ++ (z ∷ ys)) (suc (length xs)) ≡ z
numbered_at [] z ys = refl
numbered_at (x ∷ xs) z ys = numbered_at xs z ys

numbered_placed : (l xs : List (List Item)) (z : List Item) (ys : List (List Item)) (k : ℕ) → l ≡ xs ++ (z ∷ ys) → k ≡ suc (length xs) → gauge_numbered l k ≡ z
numbered_placed l xs z ys k e f = rw (e, f) (numbered_at xs z ys)

numbered_past : (l : List (List Item)) (k : ℕ) → length l < k → gauge_numbered l k ≡ []
numbered_past l zero h = refl
numbered_past [] (suc k) h = refl
numbered_past (z ∷ l) (suc zero) h = absurd (omega arith)
numbered_past (z ∷ l) (suc (suc k)) h = numbered_past l (suc k) (omega arith)

pub of_face : (file : List ℕ) (t : Tree) (sought : ℕ) → face_of file ≡ taken t → gauge_bytes (face_of file) sought ≡ size_bytes (gauge_numbered (gauges_of t) sought)
unfolding gauge_bytes
of_face file t sought e = ap (λ (a : Answer Tree). gauge_bytes a sought) e

module _ (file : List ℕ) (sought left : ℕ) (s t : Entries) (k : Seeking file sought (rest_of s) left) where
  module _ (r : Entry) (came : Gives s (Some r) t) (sizes : Bor (List ℕ)) (e : r ≡ Gauge sizes) where
    here : GaugeNext file k.face k.stack (rest_of s) sizes.now (rest_of t)
    here = came_gauge file k.face k.stack s t k.walk r came sizes e

    abbrev items : List Item
    items = sizes_in (count_of sizes.now) sizes.now

    -- The gauges of the face are those passed, this one, and some more.
    placed : (ys : List (List Item)) × (gauges_of k.face ≡ flat gauges_of k.stack ++ (items ∷ ys))
    placed =
        let rest = walk_flat file k.face (rest_of t) (gauge_of sizes.now ∷ k.stack) here.walk gauges_of gauges_join in
        (rest.0, rest.1 ∙ append_assoc (flat gauges_of k.stack) (items ∷ []) rest.0)

    own_bytes : Bytes sizes.now
    own_bytes =
        subst (λ (l : List ℕ). Bytes l) (sym here.own) (bytes_take (length sizes.now) (drop 2 (rest_of s)) (bytes_drop 2 (rest_of s) k.bytes))

    pub seek_found : left ≡ 0 → sizes.now ≡ gauge_bytes (face_of file) sought
    seek_found none =
        let count = k.count in
        let this : sought ≡ suc (length (flat gauges_of k.stack)) = omega arith in
        let found : gauge_numbered (gauges_of k.face) sought ≡ items = numbered_placed (gauges_of k.face) (flat gauges_of k.stack) items placed.0 sought placed.1 this in
        whole_bytes (count_of sizes.now) sizes.now own_bytes here.sized
        ∙ sym (of_face file k.face sought k.walk.means ∙ ap size_bytes found)

    pub seek_next : (left ≡ 0 → ⊥) → Seeking file sought (rest_of t) (left - 1)
    seek_next some =
        let passed = length-append (flat gauges_of k.stack) (items ∷ []) in
        let count = k.count in
        record {
          face = k.face;
          stack = gauge_of sizes.now ∷ k.stack;
          bytes = subst (λ (l : List ℕ). Bytes l) (sym here.after) (bytes_drop (2 + length sizes.now) (rest_of s) k.bytes);
          walk = here.walk;
          count = omega arith;
        }

  pub seek_join : (r : Entry) → Gives s (Some r) t → (kind : Kind) → r ≡ Join kind → Seeking file sought (rest_of t) left
  seek_join r came kind e =
      let j = came_join file k.face k.stack s t k.walk r came kind e in
      record {
        face = k.face;
        stack = j.cut j.older j.newer ∷ j.below;
        bytes = subst (λ (l : List ℕ). Bytes l) (sym j.after) (bytes_drop 1 (rest_of s) k.bytes);
        walk = j.walk;
        count =
            ap (λ (l : List (List Item)). left + 1 + length l) (join_flat gauges_of gauges_join (byte_of kind) j.cut j.older j.newer j.below j.is_cut)
            ∙ ap (λ (l : List Tree). left + 1 + length (flat gauges_of l)) (sym j.two)
            ∙ k.count;
      }

  pub seek_end : (r : Option Entry) → r ≡ None → Gives s r t → gauge_bytes (face_of file) sought ≡ []
  seek_end r e came =
      let whole = walk_end file k.face (rest_of s) k.stack k.walk (came_none file k.face k.stack s t k.walk r e came) in
      let passed = ap (λ (l : List Tree). left + 1 + length (flat gauges_of l)) (sym whole) ∙ k.count in
      of_face file k.face sought k.walk.means ∙ ap size_bytes (numbered_past (gauges_of k.face) sought (omega arith))
