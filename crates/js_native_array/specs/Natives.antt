-- The array natives by number: a row for each.
use Rattle.std.specs.Prelude.{ℕ, Option, Some, None}
use Rattle.std.specs.Option.{option_and_then, option_map_or}
use Rattle.js_value.specs.declared.value.NativeId.{NativeId}
use Rattle.js_value.specs.declared.value.Value.{Value}
use Rattle.js_value.specs.declared.value.Value.TheVariants as value
use Rattle.js_heap.specs.World.{World}
use Rattle.js_host.specs.Natives.{named_at}
use Rattle.js_host.specs.declared.call.NativeCall.{NativeCall}
use Rattle.js_host.specs.declared.call.Resume.{Resume}
use Rattle.js_host.specs.declared.native.Builtin.{Builtin}
use Rattle.js_host.specs.declared.native.Builtin.TheVariants as builtin
use Rattle.js_native_array.specs.Edits.{pop_row, push_row, reverse_row, shift_row, splice_row}
use Rattle.js_native_array.specs.Edits.{unshift_row}
use Rattle.js_native_array.specs.Joins.{join_resumed, join_row}
use Rattle.js_native_array.specs.Makers.{array_row, concat_row, index_of_row, is_array_row}
use Rattle.js_native_array.specs.Makers.{slice_row}
use Rattle.js_native_array.specs.Rows.{Row, gives}
use Rattle.js_native_array.specs.Walks.{reduce_row, walk_resumed, walk_row}
use Rattle.js_native_array.specs.declared.native.ArrayNative.{ArrayNative}
use Rattle.js_native_array.specs.declared.native.ArrayNative.TheVariants as native
use Rattle.js_native_array.specs.declared.native.Walking.{Walking}
use Rattle.js_native_array.specs.declared.native.Walking.TheVariants as walking

abbrev pub array_native_named : Builtin → Option ArrayNative
array_native_named builtin.Array = Some native.Array
array_native_named builtin.ArrayIsArray = Some native.IsArray
array_native_named builtin.ArrayPush = Some native.Push
array_native_named builtin.ArrayPop = Some native.Pop
array_native_named builtin.ArrayShift = Some native.Shift
array_native_named builtin.ArrayUnshift = Some native.Unshift
array_native_named builtin.ArraySplice = Some native.Splice
array_native_named builtin.ArrayReverse = Some native.Reverse
array_native_named builtin.ArraySlice = Some native.Slice
array_native_named builtin.ArrayConcat = Some native.Concat
array_native_named builtin.ArrayJoin = Some native.Join
array_native_named builtin.ArrayIndexOf = Some native.IndexOf
array_native_named builtin.ArrayForEach = Some (native.Walk walking.ForEach)
array_native_named builtin.ArrayMap = Some (native.Walk walking.Map)
array_native_named builtin.ArrayFilter = Some (native.Walk walking.Filter)
array_native_named builtin.ArraySome = Some (native.Walk walking.Any)
array_native_named builtin.ArrayEvery = Some (native.Walk walking.Every)
array_native_named builtin.ArrayReduce = Some (native.Walk walking.Reduce)
array_native_named b = None

-- the array native of a number
abbrev pub array_native_at : ℕ → Option ArrayNative
array_native_at n = option_and_then array_native_named (named_at n)

abbrev pub walking_row : Walking → NativeId → World → NativeCall → Row
walking_row walking.Reduce id w c = reduce_row id w c
walking_row m id w c = walk_row id m w c

-- what a call comes to
abbrev pub row_of : ArrayNative → NativeId → World → NativeCall → Row
row_of native.Array id w c = array_row w c
row_of native.IsArray id w c = is_array_row w c
row_of native.Push id w c = push_row w c
row_of native.Pop id w c = pop_row w c
row_of native.Shift id w c = shift_row w c
row_of native.Unshift id w c = unshift_row w c
row_of native.Splice id w c = splice_row w c
row_of native.Reverse id w c = reverse_row w c
row_of native.Slice id w c = slice_row w c
row_of native.Concat id w c = concat_row w c
row_of native.Join id w c = join_row id w c
row_of native.IndexOf id w c = index_of_row w c
row_of (native.Walk m) id w c = walking_row m id w c

-- what the answer to its callback comes to; one that enters nothing gives undefined
abbrev pub resumed_of : ArrayNative → World → Resume → Value → Row
resumed_of native.Join w r a = join_resumed w r a
resumed_of (native.Walk m) w r a = walk_resumed m w r a
resumed_of n w r a = gives value.Undefined w

-- The rows by number. Of a native that is none of these nothing is asked: it gives undefined.
abbrev pub array_native : World → NativeId → NativeCall → Row
array_native w id c =
    option_map_or (λ n. row_of n id w c) (array_native_at id.number) (gives value.Undefined w)

abbrev pub array_resume : World → Resume → Value → Row
array_resume w r a =
    option_map_or (λ n. resumed_of n w r a) (array_native_at r.id.number)
    (gives value.Undefined w)
