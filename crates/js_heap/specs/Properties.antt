-- The properties of an object, in their order: the words of tables of properties, passed on.
pub use Rattle.js_table.specs.Properties.{property_named, value_named, with_property, with_value, without}
