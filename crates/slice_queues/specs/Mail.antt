-- For which cores of a line messages wait, by kind, as sets of cores.
use Rattle.std.specs.Prelude.{◌≡◌, ℕ, Bool, List, slice_index_or, bit_or}
use Rattle.address_map.specs.CoreSet.{has}
use Rattle.slice_queues.specs.declared.channel.Class.{Class}
use Rattle.slice_queues.specs.declared.channel.Class.TheVariants as classes
use Rattle.slice_queues.specs.declared.mail.Mail.{Mail}
use Rattle.slice_queues.specs.Line.{CoreChannels, no_messages, has_request, has_forwarded, has_data, has_acks}
use Rattle.slice_queues.specs.Line.{IsWithinCores}

-- no core is marked
abbrev pub no_marks : Mail
no_marks = record { requests = 0; forwarded = 0; data_messages = 0; acks = 0 }

-- the marks for the channels of this class
abbrev pub marks_of : Class → Mail → Mail
marks_of classes.Any mail = mail
marks_of classes.Req mail = record no_marks { requests = mail.requests }
marks_of classes.Fwd mail = record no_marks { forwarded = mail.forwarded }
marks_of classes.Data mail = record no_marks { data_messages = mail.data_messages }
marks_of classes.Ack mail = record no_marks { acks = mail.acks }
marks_of classes.Home mail = no_marks

-- the cores that are marked for any kind
abbrev pub all_marked : Mail → ℕ
all_marked mail = bit_or (bit_or (bit_or mail.requests mail.forwarded) mail.data_messages) mail.acks

-- the set has the cores whose channels pass the test, and no other
abbrev pub Marks : (CoreChannels → Bool) → ℕ → List CoreChannels → Type 0
Marks test cores channels = (core : ℕ) → has cores core ≡ test (slice_index_or channels core no_messages)

-- for each kind of message the cores are marked for which one waits
pub record IsMarked (cores : List CoreChannels) (mail : Mail) : Type 0 where
  pub requests : Marks has_request mail.requests cores
  pub forwarded : Marks has_forwarded mail.forwarded cores
  pub data_messages : Marks has_data mail.data_messages cores
  pub acks : Marks has_acks mail.acks cores

-- what holds of every line: its bounds, and its marks
pub record IsLine (cores : List CoreChannels) (mail : Mail) : Type 0 where
  pub within : IsWithinCores cores
  pub marked : IsMarked cores mail
