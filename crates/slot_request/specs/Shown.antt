-- What contracts see of what is asked for.
use Rattle.slot_request.specs.declared.request.Frame.{Frame}
use Rattle.slot_request.specs.declared.request.SlotRequest.{SlotRequest}
use Rattle.spec_json.specs.TreeData.{data_of}
use Rattle.spec_slots.specs.Requests as requests

abbrev pub frame_shown : Frame → requests.Frame
frame_shown f = record { calendar = f.calendar.now; length = f.length; from = f.from; to = f.to }

abbrev pub request_shown : SlotRequest → requests.SlotRequest
request_shown a = record { frame = record { calendar = a.calendar; length = a.wish.length; from = a.from; to = a.to }; rules = data_of a.wish.rules }
