-- What a delivery comes to, with one value or another; and the better of two.
use Rattle.std.specs.Prelude.{◌≡◌}
use Rattle.slice_answer.specs.declared.answer.Delivered.TheVariants as delivered
use Rattle.slice_answer.specs.declared.answer.Delivered.{Delivered}
use Rattle.slice_answer.specs.declared.answer.Delivery.TheVariants as deliveries
use Rattle.slice_answer.specs.declared.answer.Delivery.{Delivery}

-- the answer of a delivery, with this value where a message was moved
abbrev pub delivered_with : {A : Type 0} → A → Delivered → Delivery A
delivered_with value delivered.Moved = deliveries.Moved value
delivered_with value delivered.Blocked = deliveries.Blocked
delivered_with value delivered.Nothing = deliveries.Nothing
delivered_with value (delivered.Broken cell) = deliveries.Broken cell

-- the same delivery with another value where a message is moved
abbrev pub delivery_with : {A B : Type 0} → B → Delivery A → Delivery B
delivery_with value (deliveries.Moved moved) = deliveries.Moved value
delivery_with value deliveries.Blocked = deliveries.Blocked
delivery_with value deliveries.Nothing = deliveries.Nothing
delivery_with value (deliveries.Broken cell) = deliveries.Broken cell

-- .. with what a function makes of the value
abbrev pub delivery_map : {A B : Type 0} → (A → B) → Delivery A → Delivery B
delivery_map f (deliveries.Moved moved) = deliveries.Moved (f moved)
delivery_map f deliveries.Blocked = deliveries.Blocked
delivery_map f deliveries.Nothing = deliveries.Nothing
delivery_map f (deliveries.Broken cell) = deliveries.Broken cell

-- the value of a delivery that moves a message has this property
abbrev pub IfMoved : {A : Type 0} → Delivery A → (A → Type 0) → Type 0
IfMoved (deliveries.Moved value) P = P value
IfMoved _ P = Unit {0}

-- the second is the first with another value, and the two values are related so
abbrev pub IsMappedBy : {A B : Type 0} → (A → B → Type 0) → Delivery A → Delivery B → Type 0
IsMappedBy {B = B} R (deliveries.Moved value) mapped =
    (other : B) × (mapped ≡ deliveries.Moved other) × R value other
IsMappedBy R deliveries.Blocked mapped = mapped ≡ deliveries.Blocked
IsMappedBy R deliveries.Nothing mapped = mapped ≡ deliveries.Nothing
IsMappedBy R (deliveries.Broken cell) mapped = mapped ≡ deliveries.Broken cell

-- the better of two
abbrev pub better_of : {A : Type 0} → Delivery A → Delivery A → Delivery A
better_of (deliveries.Moved moved) other = deliveries.Moved moved
better_of (deliveries.Broken cell) (deliveries.Moved moved) = deliveries.Moved moved
better_of (deliveries.Broken cell) other = deliveries.Broken cell
better_of deliveries.Blocked (deliveries.Moved moved) = deliveries.Moved moved
better_of deliveries.Blocked (deliveries.Broken cell) = deliveries.Broken cell
better_of deliveries.Blocked other = deliveries.Blocked
better_of deliveries.Nothing other = other
