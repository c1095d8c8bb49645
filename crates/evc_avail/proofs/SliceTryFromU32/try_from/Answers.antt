-- `Slice::try_from` meets its contract. Assumes nothing.
use Rattle.std.proofs.Common.{sym, refl, ◌∙◌, le-ltb, lt-ltb}
use Rattle.evc_def.proofs.Codes.{refused, passed, none}
use Rattle.evc_avail.proofs.SliceTryFromU32.try_from.Goals as goal

pub returns-then-slice_num-gt-MAX_SLICE_NUM : goal.returns-then-slice_num-gt-MAX_SLICE_NUM
returns-then-slice_num-gt-MAX_SLICE_NUM c = (sym (refused _ _ _ (lt-ltb _ _ c.if-slice_num-gt-MAX_SLICE_NUM.true)), tt)

pub returns : goal.returns
returns c = (sym (passed _ _ _ (le-ltb _ _ c.if-slice_num-gt-MAX_SLICE_NUM.false) ∙ none), refl)
