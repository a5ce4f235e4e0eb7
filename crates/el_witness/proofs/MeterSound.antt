-- The meter is sound: the test answers.
use Rattle.std.proofs.Common.{refl}
use Rattle.el_design.specs.Sound.{IsSound}
use Rattle.el_witness.specs.Meter.{meter}
use Rattle.el_witness.proofs.SoundTests.{answered, is_sound}

pub meter_is_sound : IsSound meter
meter_is_sound = answered (is_sound meter) refl
