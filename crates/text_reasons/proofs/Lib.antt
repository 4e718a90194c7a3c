mod Quoting
