-- The number of what moved is the one that the code makes of it. Assumes nothing.
use mathlib.Core.Path.{◌≡◌, refl}
use denote.Enum.Declared.{tag_of}
use Rattle.evc_clip.specs.Clip.{number_of}
use Rattle.evc_clip.specs.contracts.Moved.{the_type}
use Rattle.evc_clip.specs.declared.Moved.{Moved}
use Rattle.evc_clip.specs.declared.Moved.TheVariants.{No, Low, High}

pub by_number : (m : Moved) → tag_of the_type m ≡ number_of m
by_number No = refl
by_number Low = refl
by_number High = refl
