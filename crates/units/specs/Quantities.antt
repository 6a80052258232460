-- What the variants of a physical quantity stand for.
use Rattle.rules.specs.Units as rules
use Rattle.units.specs.declared.Physical.{Physical}
use Rattle.units.specs.declared.Physical.TheVariants.{Volume, Mass, Length, Temperature, Time}

unfoldable pub physical_in : Physical → rules.PhysicalQuantity
physical_in Volume = rules.volume
physical_in Mass = rules.mass
physical_in Length = rules.len
physical_in Temperature = rules.temperature
physical_in Time = rules.time
