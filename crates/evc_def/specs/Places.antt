-- Places in quarter samples.
use Rattle.std.specs.Prelude.{Bool, ◌&&◌, ℤ}
use Rattle.evc_int.specs.Whole.{eq_z}
use Rattle.evc_def.specs.declared.EvcMv.{EvcMv}
use Rattle.evc_def.specs.declared.QpelPlace.{QpelPlace}

-- the place that lies x quarter samples across and y down
abbrev pub qpel_place : ℤ → ℤ → QpelPlace
qpel_place x y = record { x = record { 0 = x }; y = record { 0 = y } }

-- "the given signed 16-bit position": a call passes a place in the two numbers of a vector
abbrev pub given_place : EvcMv → QpelPlace
given_place gmv = qpel_place gmv.x gmv.y

-- whether two places are one
abbrev pub is_same : QpelPlace → QpelPlace → Bool
is_same p q = eq_z p.x.0 q.x.0 && eq_z p.y.0 q.y.0
