-- The text of the error of a recording, and the kind of std's io error that it is converted to.
use Rattle.std.specs.Prelude.{ℕ, List, codes}
use Rattle.std.specs.declared.io.ErrorKind.{ErrorKind}
use Rattle.std.specs.declared.io.ErrorKind.TheVariants as kind
use Rattle.judge_recorder.specs.declared.recording_error.RecordingError.{RecordingError}
use Rattle.judge_recorder.specs.declared.recording_error.RecordingError.TheVariants as recording

-- its text
abbrev pub error_text : RecordingError → List ℕ
error_text recording.NoMemory = codes "out of memory"
error_text recording.Incomplete = codes "a recorder isn't complete: memory was refused"
error_text recording.Missing = codes "a recorder is missing"
error_text recording.Stranger = codes "a recorder is another recording's"

-- its kind
abbrev pub kind_of : RecordingError → ErrorKind
kind_of recording.NoMemory = kind.OutOfMemory
kind_of recording.Incomplete = kind.OutOfMemory
kind_of recording.Missing = kind.InvalidInput
kind_of recording.Stranger = kind.InvalidInput
