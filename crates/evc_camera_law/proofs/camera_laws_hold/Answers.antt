use Rattle.evc_camera_law.proofs.CameraLaws.{camera_laws}
use Rattle.evc_camera_law.proofs.camera_laws_hold.Goals as goal

pub returns : goal.returns
returns c = camera_laws
