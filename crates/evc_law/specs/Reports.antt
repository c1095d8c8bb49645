-- Document 02, W2: what a report says of a vector. What becomes of the reports of a mirrored call, and of one with its lists exchanged, is part of Demand3.
-- evc_law/proofs/Reports proves them.
use Rattle.std.specs.Prelude.{◌≡◌, ℕ, ℤ}
use Rattle.evc_def.specs.declared.EvcBlock.{EvcBlock}
use Rattle.evc_clip.specs.Clip.{not_moved, nothing_moved, clip_component, moved_component}
use Rattle.evc_mc.specs.declared.EvcList.{EvcList}
use Rattle.evc_mc.specs.Block.{list_moved}
use Rattle.evc_law.specs.Invisible.{Unclipped}

-- a component is reported exactly if clipping changed it
abbrev pub ReportedIfChanged : Type 0
ReportedIfChanged =
    (W x w : ℕ) (mv : ℤ) → (moved_component W x w mv ≡ not_moved → clip_component W x w mv ≡ mv) × (clip_component W x w mv ≡ mv → moved_component W x w mv ≡ not_moved)

-- so a list reports nothing exactly if W6 says of it that its vector needs no clipping
abbrev pub ReportedIfClipped : Type 0
ReportedIfClipped = (b : EvcBlock) (l : EvcList) → (list_moved b l ≡ nothing_moved → Unclipped b l) × (Unclipped b l → list_moved b l ≡ nothing_moved)

abbrev pub Reports : Type 0
Reports = ReportedIfChanged × ReportedIfClipped
