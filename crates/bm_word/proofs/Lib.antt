mod Digits
mod RoundTrip
