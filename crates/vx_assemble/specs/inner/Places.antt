-- The place where a slice joins a picture.
use Rattle.std.specs.Prelude.{◌≡◌, length}
use Rattle.vx_pic.specs.Readings.{Picture}
use Rattle.vx_pic.specs.Rules.{picture_size}
use Rattle.vx_pic.specs.Parts.{stored_sets}
use Rattle.vx_assemble.specs.declared.join.Place.{Place}
use Rattle.vx_assemble.specs.inner.Held.{begun_of}

-- It is that of the picture.
pub record IsAt (a : Place) (p : Picture) : Type 0 where
  pub begun : begun_of a.begun.now p.begun.unit ≡ p.begun
  pub kind : a.kind ≡ p.kind
  pub bodies : a.bodies.now ≡ stored_sets p.before
  pub count : a.count ≡ length p.slices
  pub size : a.size ≡ picture_size p
