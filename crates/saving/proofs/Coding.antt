-- What a loop over entries keeps of its page: the coded parts of the stack are written on it one after the other, and it had room for the whole face.
-- A gauge is coded behind the parts before it, and a join's kind behind its two parts; what is still to be read only adds to what is coded.
use mathlib.Core.Path.{◌≡◌, sym, ap, ◌∙◌}
use mathlib.Core.List.{List, [], ◌∷◌, ◌++◌}
use Prim.Native.Nat.{ℕ}
use native.Mathlib.Omega.{arith}
use lib.ListN.{length, length-append}
use Rattle.checks.specs.Answer.{Answer, taken}
use Rattle.checks.proofs.Answers.{same_taken}
use Rattle.slicing.specs.Item.{Item}
use Rattle.slicing.specs.Tree.{Tree, gauge}
use Rattle.sizes.specs.Rules.{Rules}
use Rattle.entries.specs.Entry.{State}
use Rattle.entries.specs.inside.Tracking.{flat}
use Rattle.entries.specs.inside.Kinds.{byte_of}
use Rattle.entries.specs.declared.kinds.Kind.{Kind}
use Rattle.entries.proofs.Took.{state}
use Rattle.facefile.specs.inside.Entries.{Run, JoinNext}
use Rattle.facefile.proofs.EntryWalk.{run_reads, run_end}
use Rattle.written.specs.EntriesOf.{entries_of}
use Rattle.written.proofs.Written.{join_written, reads_written}
use Rattle.text.specs.declared.page.Page.{Page}
use Rattle.text.specs.inside.Writing.{Fits, Wrote}
use Rattle.text.proofs.Pages.{wrote_nothing, same_fit, same_wrote, rest_fits, both_wrote}

-- In the bytes or words of a face that `whole` means, with `rest` still to come: the parts of the stack are coded.
module _ (whole : Answer Tree) (rules : Rules) (begin : State) (code : List Item → List ℕ) (old : Page ℕ) where
  pub record Coding (rest : List ℕ) (now : Page ℕ) : Type 0 where
    pub face : Tree
    pub stack : List Tree
    pub walk : Run whole rules begin face rest stack
    pub room : Fits old (entries_of code face)
    pub coded : Wrote old (flat (entries_of code) stack) now

  pub coding_start : (t : Tree) (rest : List ℕ) → Run whole rules begin t rest [] → Fits old (entries_of code t) → Coding rest old
  coding_start t rest walk room = record { face = t; stack = []; walk = walk; room = room; coded = wrote_nothing old }

  -- The coded parts are the beginning of the coded face, so they have their room.
  parts_fit : (face : Tree) (rest : List ℕ) (parts : List Tree) → Run whole rules begin face rest parts → Fits old (entries_of code face) → Fits old (flat (entries_of code) parts)
  parts_fit face rest parts walk fits =
      let left = run_reads whole rules begin face rest parts walk in
      let all = reads_written code walk.left (state rest parts walk.gauges) (state [] (face ∷ []) left.0) left.1 in
      let both = ap length all.1 ∙ length-append (flat (entries_of code) parts) all.0 in
      let room = fits.room in
      record { room = omega arith }

  module _ (rest : List ℕ) (now : Page ℕ) (p : Coding rest now) where
    pub coding_end : rest ≡ [] → (t : Tree) → whole ≡ taken t → Wrote old (entries_of code t) now
    coding_end none t is =
        let one = run_end whole rules begin p.face rest p.stack p.walk none in
        let same = same_taken p.face t (sym p.walk.means ∙ is) in
        same_wrote old (flat (entries_of code) p.stack) (entries_of code t) now
        (ap (flat (entries_of code)) one ∙ ap (entries_of code) same) p.coded

    -- A gauge.
    module _ (z : List Item) (behind : List ℕ) (walk : Run whole rules begin p.face behind (gauge z ∷ p.stack)) where
      pub gauge_room : Fits now (entries_of code (gauge z))
      gauge_room =
          rest_fits old (flat (entries_of code) p.stack) (entries_of code (gauge z)) now p.coded
          (parts_fit p.face behind (gauge z ∷ p.stack) walk p.room)

      pub coding_gauge : (new : Page ℕ) → Wrote now (entries_of code (gauge z)) new → Coding behind new
      coding_gauge new put =
          record {
            face = p.face;
            stack = gauge z ∷ p.stack;
            walk = walk;
            room = p.room;
            coded = both_wrote old (flat (entries_of code) p.stack) (entries_of code (gauge z)) now p.coded new put;
          }

    -- A join of the two newest parts.
    module _ (kind : Kind) (behind : List ℕ) (j : JoinNext (Run whole rules begin p.face) p.stack rest kind behind) where
      abbrev parts : List Tree
      parts = j.cut j.older j.newer ∷ j.below

      joined : flat (entries_of code) p.stack ++ (byte_of kind ∷ []) ≡ flat (entries_of code) parts
      joined =
          ap (λ (l : List Tree). flat (entries_of code) l ++ (byte_of kind ∷ [])) j.two
          ∙ sym (join_written code (byte_of kind) j.cut j.older j.newer j.below j.is_cut)

      pub join_room : Fits now (byte_of kind ∷ [])
      join_room =
          rest_fits old (flat (entries_of code) p.stack) (byte_of kind ∷ []) now p.coded
          (same_fit old (flat (entries_of code) parts) (flat (entries_of code) p.stack ++ (byte_of kind ∷ [])) (sym joined) (parts_fit p.face behind parts j.walk p.room))

      pub coding_join : (new : Page ℕ) → Wrote now (byte_of kind ∷ []) new → Coding behind new
      coding_join new put =
          record {
            face = p.face;
            stack = parts;
            walk = j.walk;
            room = p.room;
            coded =
                same_wrote old (flat (entries_of code) p.stack ++ (byte_of kind ∷ [])) (flat (entries_of code) parts) new joined
                (both_wrote old (flat (entries_of code) p.stack) (byte_of kind ∷ []) now p.coded new put);
          }
