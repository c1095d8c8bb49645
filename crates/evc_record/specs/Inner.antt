-- What stands between the records and replay.
use Rattle.std.specs.Prelude.{cond, List, ℕ, eqb}
use Rattle.evc_def.specs.declared.RefList.{RefList}
use Rattle.evc_def.specs.declared.RefList.TheVariants.{List0, List1}
use Rattle.evc_direct.specs.declared.EvcDirect.{EvcDirect}
use Rattle.evc_mc.specs.declared.EvcList.{EvcList}
use Rattle.evc_trace.specs.declared.EvcTraceRecord.{EvcTraceRecord}
use Rattle.evc_record.specs.Record.{Planes, Source, list0_of, list1_of, step_of, target_after}

-- a list of a record by its number
abbrev pub record_list : RefList → EvcTraceRecord → EvcDirect → EvcList
record_list List0 = list0_of
record_list List1 = list1_of

-- the target after a record: as it was, if the record is refused
unfoldable pub after_record : Source → List ℕ → Planes → Planes
after_record e s t = cond (eqb (step_of e s).code 0) (target_after e s t) t
