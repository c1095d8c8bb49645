-- What is lent to a call, as the records that definitions speak of.
use Rattle.std.specs.Prelude.{true, false, cond, [], Option, Some, None, option_copied}
use Rattle.std.specs.Borrow.{Bor}
use Rattle.evc_def.specs.Codes.{zero_mv}
use Rattle.evc_mc.specs.Block.{RefPicList, ref_pic_list}
use Rattle.evc_mc.specs.declared.RefPicList.{RefPicList as LentList}

-- a list that is not in use
abbrev pub unused_list : RefPicList
unused_list = ref_pic_list (record { used = false; mv = zero_mv; poc = 0 }) [] [] []

abbrev pub list_of : Option LentList → RefPicList
list_of (Some l) = ref_pic_list (record { used = true; mv = l.mv; poc = l.poc }) l.planes.y.now l.planes.u.now l.planes.v.now
list_of None = unused_list

abbrev pub lent_list : Option (Bor LentList) → RefPicList
lent_list l = list_of (option_copied l)

-- of a list that is not in use nothing else is read
abbrev pub in_use : RefPicList → RefPicList
in_use l = cond l.list.used l unused_list
