-- The written sheet byte by byte (document 01, "The run sheet"; document 02, requests 1 and 5): Bytes has its header and a record, Put what the calls
-- leave in a buffer.
pub mod Bytes
pub mod Put
