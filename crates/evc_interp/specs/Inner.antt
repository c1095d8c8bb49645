-- What stands between the checks and the paths.
use Rattle.std.specs.Prelude.{true, cond, List, ◌≡◌, ℕ, ◌+◌, ◌*◌, ◌<◌, ◌≤◌, length}
use Rattle.evc_def.specs.declared.EvcMv.{EvcMv}
use Rattle.evc_def.specs.declared.QpelPlace.{QpelPlace}
use Rattle.evc_plane.specs.Planes.{side_of, stride_of}
use Rattle.evc_plane.specs.declared.PlaneType.{PlaneType}
use Rattle.evc_filter.specs.Filter.{phases, reach}
use Rattle.evc_lanes.specs.Inner.{is_row_width}
use Rattle.evc_paths.specs.Inner.{Within, is_across, is_down, path_of}
use Rattle.evc_interp.specs.Prediction.{phase_of, is_filtered, window_of, sample_by}
use Rattle.evc_interp.specs.declared.Position.{Position}

-- where a block is predicted from, and how, as the code hands it on
unfoldable pub position_of : PlaneType → ℕ → ℕ → EvcMv → QpelPlace → Position
position_of t W H ori gmv =
    let across = is_filtered t ori.x in
    let down = is_filtered t ori.y in
    record {
      stride = stride_of t W;
      at = window_of t W H across down gmv;
      path = path_of across down;
      dx = phase_of t gmv.x.0;
      dy = phase_of t gmv.y.0;
    }

-- what a path asks: its window lies in the plane, and no sample of it is above 1023
pub record Readable (t : PlaneType) (p : Position) (w h : ℕ) (s : List ℕ) : Type 0 where
  pub inside : p.at + (h + cond (is_down p.path) (reach t) 0) * p.stride + (w + cond (is_across p.path) (reach t) 0) ≤ length s + p.stride
  pub within : Within s p.at p.stride (w + cond (is_across p.path) (reach t) 0) (h + cond (is_down p.path) (reach t) 0)
  pub width : is_row_width w ≡ true
  pub narrow : w ≤ 64
  pub some : 0 < h
  pub height : is_row_width h ≡ true
  pub high : h ≤ side_of t 64
  pub dx_phase : p.dx < phases t
  pub dy_phase : p.dy < phases t
  pub stride_small : p.stride ≤ 65535

-- what it gives: the sample in row y and column x of the block
abbrev pub sample_from : PlaneType → Position → List ℕ → ℕ → ℕ → ℕ
sample_from t p s y x = sample_by t (is_across p.path) (is_down p.path) p.dx p.dy s (p.at + y * p.stride + x) p.stride
