-- Targets that can be performed: each names a word of its line and a tag of its core.
use Rattle.std.specs.Prelude.{◌<◌}
use Rattle.target_list.specs.declared.target.Target.{Target}

pub record IsPerformable (target : Target) : Type 0 where
  pub word : target.offset.0 < 8
  pub tag : target.tag < 64
