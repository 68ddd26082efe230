-- `materialtext::material_text` meets its contract.
-- A short buffer is left; in another the text is told, or the line of the check that refuses it is written.
use mathlib.Core.Path.{refl}
use native.Mathlib.Omega.{arith}
use Rattle.text.proofs.Printings.{text_short, text_long}
use Rattle.materialtext.specs.Material.{material_bytes}
use Rattle.report.proofs.Telling.{line_told}
use Rattle.materialtext.proofs.face.material_text.Goals as goal

pub returns-then-text-lt-TEXT : goal.returns-then-text-lt-TEXT
returns-then-text-lt-TEXT c =
    record {
      material_text = text_short _ _ c.args.text.now _ 0 c.if-text-lt-TEXT.true refl refl;
      counted = (omega arith, refl);
    }

pub returns-in-Ok : goal.returns-in-Ok
returns-in-Ok c =
    record {
      material_text = text_long _ _ c.args.text.now _ _ c.if-text-lt-TEXT.false c.in-Ok.ensures.0;
      counted = c.in-Ok.ensures.1;
    }

pub returns-in-Err : goal.returns-in-Err
returns-in-Err c =
    record {
      material_text = text_long _ _ c.args.text.now _ _ c.if-text-lt-TEXT.false (line_told material_bytes _ _ _ _ c.in-Err.ensures _ c.number.ensures _ _ c.render_refused.ensures.printed);
      counted = (omega (arith, c.render_refused.ensures.counted.0), c.render_refused.ensures.counted.1);
    }
