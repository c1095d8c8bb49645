-- Document 01, 'Edges to try': "The [P] lines form one list, shown by a single statement to hold for the definitions." The fifteen lines in the document's order;
-- each group is stated beside its definitions, which the contracts cite, and shown in proofs/Edges of its crate.
use Rattle.evc_filter.specs.Filter.{FilterEdges}
use Rattle.evc_clip.specs.Clip.{ClipEdges}
use Rattle.evc_direct.specs.Direct.{DirectEdges}
use Rattle.evc_avail.specs.Flags.{FlagEdges}
use Rattle.evc_mc.specs.Block.{AverageEdges}

abbrev pub Edges : Type 0
Edges =
    -- "Luma phase 2 over 0,0,1023,1023,0,0: 1023." "Over 1023,1023,0,0,1023,1023: 0."
    -- "Luma over 0,0,100,200,0,0: phase 1 gives 144." "Phase 3 gives 194."
    -- "Chroma phase 1 over 0,64,128,0: 78."
    -- "First of two stages, phase 1 over 0,1,0,0,0,0: -2."
    FilterEdges
    -- "W 64, x 16, w 16: mvx -320 stays." "-321 becomes -320."
    -- "W 64, x 48, w 16: 256 stays." "257 becomes 256."
    × ClipEdges
    -- "Counts: current 4, reference 0 is 0, reference 1 is 8, its first listed 0; collocated (7,-7): (3,-3) and (-3,3)."
    -- "Counts 5, 0, 6, 5; collocated x 10000: first x -15536, second x -10000."
    × DirectEdges
    -- "Average of 3 and 4: 4."
    × AverageEdges
    -- "8 by 8 picture, 4 by 4 block at (4,4): flags 513 if all words are 0." "547 if all are 0x80000000."
    × FlagEdges
