-- "version 1 is read as before": of a taken file of version 1 the list of every gauge is its sizes as they stand.
-- Check 9 was asked of every gauge, and sizes that stand in order are their own list.
use mathlib.Core.Path.{◌≡◌}
use mathlib.Core.Bool.{true}
use mathlib.Core.List.{List, [], ◌∷◌}
use Prim.Native.Nat.{ℕ}
use borrow.Author.Tests.{eq-eqb}
use Rattle.checks.specs.Answer.{taken}
use Rattle.slicing.specs.Tree.{Tree}
use Rattle.slicing.specs.UsefulMeans.{AsPrinted}
use Rattle.slicing.proofs.GaugeUseful.{ordered_same}
use Rattle.sizes.specs.Rules.{Rules, asks_order}
use Rattle.sizes.specs.GaugeSizes.{field}
use Rattle.sizes.proofs.GoodSizes.{sizes_taken}
use Rattle.entries.specs.Entry.{State}
use Rattle.entries.specs.inside.Kinds.{Cut, cut_beside, cut_stacked}
use Rattle.entries.proofs.Took.{state, Took, took_gauge, took_join, Reads, reads_none, reads_more}
use Rattle.facefile.specs.Format.{rules_of, start, face_of}
use Rattle.facefile.proofs.Taken.{face_read}

abbrev AllAsPrinted : List Tree → Type 0
AllAsPrinted [] = Unit {0}
AllAsPrinted (t ∷ parts) = AsPrinted t × AllAsPrinted parts

cut_printed : (kind : ℕ) (cut : Tree → Tree → Tree) (a b : Tree) → Cut kind cut → AsPrinted a → AsPrinted b → AsPrinted (cut a b)
cut_printed kind cut a b cut_beside x y = (x, y)
cut_printed kind cut a b cut_stacked x y = (x, y)

took_printed : (rules : Rules) (s t : State) → asks_order rules ≡ true → AllAsPrinted s.stack → Took rules s t → AllAsPrinted t.stack
took_printed rules s t asked h (took_gauge count bytes parts g z few some most present sized) =
    (ordered_same z ((sizes_taken rules count bytes z some most sized).order asked), h)
took_printed rules s t asked h (took_join kind cut bytes a b parts g c) =
    (cut_printed kind cut a b c h.1.0 h.0, h.1.1)

reads_printed : (rules : Rules) (k : ℕ) (s t : State) → asks_order rules ≡ true → AllAsPrinted s.stack → Reads rules k s t → AllAsPrinted t.stack
reads_printed rules k s t asked h (reads_none x) = h
reads_printed rules k s t asked h (reads_more j x u y first rest) =
    reads_printed rules j u t asked (took_printed rules s u asked h first) rest

pub version_1 : (s : List ℕ) (t : Tree) → face_of s ≡ taken t → field s 3 ≡ 1 → AsPrinted t
version_1 s t e one =
    let read = face_read s t e in
    (reads_printed (rules_of s) (field s 5) (start s) (state [] (t ∷ []) read.last) (eq-eqb (field s 3) 1 one) tt read.reads).0
